use Rattle.std.proofs.Common.{map}
use Rattle.bag_model.specs.Slots.{SlotAt}
use Rattle.bag_model.specs.SlotValues.{HasSlot}
use Rattle.write_proof.specs.declared.verdicts.VerifyCode.TheVariants as codes
use Rattle.write_proof.specs.Views.{entry_of}
use Rattle.write_proof.proofs.FirstCalls.{NoneBefore}
use Rattle.write_proof.proofs.whole_rules.too_much.Given as goal

abbrev pub invariant-loop-at : goal.invariant-loop-at
invariant-loop-at l = (at : SlotAt) → HasSlot l.table l.slot at → NoneBefore l.graph l.slot at (map entry_of l.entries) codes.TooMuch l.at
