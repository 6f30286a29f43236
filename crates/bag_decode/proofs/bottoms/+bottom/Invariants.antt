use Rattle.std.proofs.Common.{◌≡◌, map, take}
use Rattle.bag_model.specs.Shapes.{fields}
use Rattle.bag_model.specs.Sizes.{shape_size, nodes_size}
use Rattle.bag_model.specs.Values.{values_list}
use Rattle.field_table.specs.Plain.{shape_of, nodes_of}
use Rattle.bag_decode.proofs.Fields.{bottom_at}
use Rattle.bag_decode.proofs.bottoms.+bottom.Given as goal

abbrev pub decreases-bottom_of : goal.decreases-bottom_of
decreases-bottom_of l = shape_size (shape_of l.shape.now)

abbrev pub decreases-bottoms_of : goal.decreases-bottoms_of
decreases-bottoms_of l = nodes_size (nodes_of l.fields.now)

abbrev pub invariant-bottoms_of-loop-at : goal.invariant-bottoms_of-loop-at
invariant-bottoms_of-loop-at l = values_list l.values ≡ map bottom_at (take l.at (fields (nodes_of l.fields)))
