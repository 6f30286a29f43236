use Rattle.std.proofs.Common.{IsUtf8, subst}
use Rattle.field_calls.proofs.NameTexts.{slot_utf8}
use Rattle.field_calls.proofs.fields.slot_named.Goals as goal

pub returns-in_default-clause-refused : goal.returns-in_default-clause-refused
returns-in_default-clause-refused c =
    λ place slot there named. c.in_default.ensures.cases.0 (subst IsUtf8 named (slot_utf8 c.args.table.now place slot c.nodes.ensures.table there))
