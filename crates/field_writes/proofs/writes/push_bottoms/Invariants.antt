use Rattle.std.proofs.Common.{◌≡◌, ◌-◌, ◌++◌, drop, map, take}
use Rattle.bag_model.specs.Shapes.{fields}
use Rattle.bag_model.specs.Values.{bottom, values_list}
use Rattle.field_table.specs.Plain.{nodes_of}
use Rattle.field_writes.proofs.writes.push_bottoms.Given as goal

abbrev pub invariant-loop-at : goal.invariant-loop-at
invariant-loop-at l = values_list l.values ≡ values_list l.fn.values ++ map (λ field. bottom field.shape) (take (l.at - l.from) (drop l.from (fields (nodes_of l.fields))))
