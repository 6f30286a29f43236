use Rattle.report_text.specs.Blocks.{AddsSlotLines}
use Rattle.report_text.proofs.blocks.put_slots.Given as goal

abbrev pub invariant-loop-slot : goal.invariant-loop-slot
invariant-loop-slot l = AddsSlotLines l.table l.context l.slot l.fn.into.items l.into.items
