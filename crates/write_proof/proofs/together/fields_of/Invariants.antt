use Rattle.std.proofs.Common.{take}
use Rattle.write_proof.specs.Together.{IsOfField, values_of}
use Rattle.write_proof.proofs.TogetherCalls.{Gathers}
use Rattle.write_proof.proofs.together.fields_of.Given as goal

abbrev pub invariant-loop-bag : goal.invariant-loop-bag
invariant-loop-bag l = Gathers (IsOfField l.at) (values_of (take l.bag-index l.bags)) (values_of l.found.items)
