use Rattle.std.proofs.Common.{ℕ, map}
use Rattle.bag_model.specs.Slots.{SlotAt}
use Rattle.write_proof.specs.declared.verdicts.VerifyCode.TheVariants as codes
use Rattle.write_proof.specs.Views.{entry_of}
use Rattle.write_proof.proofs.FirstCalls.{NoneBefore}
use Rattle.write_proof.proofs.whole_rules.missing.Given as goal

abbrev pub invariant-loop-at : goal.invariant-loop-at
invariant-loop-at l = (slot : ℕ) (at : SlotAt) → NoneBefore l.graph slot at (map entry_of l.entries) codes.Missing l.at
