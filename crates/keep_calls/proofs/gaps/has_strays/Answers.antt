use Rattle.std.proofs.Common.{◌∙◌, ap, Some, arith}
use Rattle.std.proofs.Common.{ltb-true, lt-ltb}
use Rattle.keep_calls.proofs.SlotSteps.{level_upto, told_lead}
use Rattle.keep_calls.proofs.Steps.{told_last}
use Rattle.keep_calls.proofs.gaps.has_strays.Goals as goal

pub returns-then-slot-slots : goal.returns-then-slot-slots
returns-then-slot-slots c =
    let t = told_last c.args.table.now c.args.list.now c.args.slot c.args.from c.args.to c.requires.gap (omega (arith, c.if-slot-slots.true, c.slots.ensures)) in
    ((λ b. t.0 (ltb-true c.args.from c.args.to b)), λ s. lt-ltb c.args.from c.args.to (t.1 s))

pub lead_end-requires-clause-level : goal.lead_end-requires-clause-level
lead_end-requires-clause-level c =
    level_upto _ c.args.slot c.level_shared-level.result c.as_slice.result.now (omega (arith, c.requires.slot, c.if-slot-slots.false, c.slots.ensures))
    (ap Some c.as_slice.ensures.numbers ∙ c.numbers-numbers.ensures) c.level_shared-level.ensures

pub returns : goal.returns
returns c =
    let t = told_lead c.args.table.now c.args.list.now c.args.slot c.args.from c.args.to c.level_shared-level.result c.lead_end.result c.as_slice.result.now c.requires.gap
    (omega (arith, c.requires.slot, c.if-slot-slots.false, c.slots.ensures)) (ap Some c.as_slice.ensures.numbers ∙ c.numbers-numbers.ensures) c.level_shared-level.ensures
    c.lead_end.ensures.from c.lead_end.ensures.to c.lead_end.ensures.lead c.lead_end.ensures.stops in
    ((λ b. t.0 (ltb-true c.lead_end.result c.args.to b)), λ s. lt-ltb c.lead_end.result c.args.to (t.1 s))
