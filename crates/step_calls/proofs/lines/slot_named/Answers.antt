use Rattle.std.proofs.Common.{IsUtf8, subst}
use Rattle.step_calls.proofs.NameTexts.{slot_utf8}
use Rattle.step_calls.proofs.lines.slot_named.Goals as goal

pub returns-in_default : goal.returns-in_default
returns-in_default c = λ place slot there named.
    c.in_default.ensures.cases.0 (subst IsUtf8 named (slot_utf8 c.args.table.now place slot c.nodes.ensures.table there))
