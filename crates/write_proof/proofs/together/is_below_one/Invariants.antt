use Rattle.std.proofs.Common.{take}
use Rattle.context_model.specs.Orders.{IsIn}
use Rattle.bag_model.specs.Joins.{IsValueBelow}
use Rattle.bag_model.specs.Values.{Value}
use Rattle.bag_value.specs.Vals.{plain}
use Rattle.write_proof.specs.Together.{values_of}
use Rattle.write_proof.proofs.together.is_below_one.Given as goal

abbrev pub invariant-loop-other : goal.invariant-loop-other
invariant-loop-other l = (v : Value) → IsIn v (values_of (take l.other-index l.others)) → IsValueBelow (plain l.value) v → ⊥
