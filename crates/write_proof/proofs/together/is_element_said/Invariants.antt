use Rattle.std.proofs.Common.{take}
use Rattle.context_model.specs.Orders.{IsIn}
use Rattle.bag_model.specs.Values.{Value}
use Rattle.scalar_types.specs.Scalars.{value_of}
use Rattle.write_proof.specs.Together.{Says, HasElement, values_of}
use Rattle.write_proof.proofs.together.is_element_said.Given as goal

abbrev pub invariant-loop-other : goal.invariant-loop-other
invariant-loop-other l = (v : Value) → IsIn v (values_of (take l.other-index l.others)) → Says v (HasElement (value_of l.element)) → ⊥
