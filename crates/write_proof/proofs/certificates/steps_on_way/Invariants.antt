use Rattle.std.proofs.Common.{◌≡◌, take}
use Rattle.context_model.specs.KeyedMerge.{keys_of}
use Rattle.write_proof.specs.Reaching.{pairs_of}
use Rattle.write_proof.proofs.certificates.steps_on_way.Given as goal

abbrev pub invariant-loop-reach : goal.invariant-loop-reach
invariant-loop-reach l = l.steps.items ≡ keys_of (pairs_of (take l.reach-index l.reaching))
