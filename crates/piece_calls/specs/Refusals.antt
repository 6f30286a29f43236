-- Faults of contexts and of lines of pieces in the words of this crate.
use Rattle.text_carrier.specs.declared.faults.CarryCode.{CarryCode}
use Rattle.text_carrier.specs.declared.faults.CarryCode.TheVariants as lines
use Rattle.text_carrier.specs.declared.faults.CarryFault.{CarryFault}
use Rattle.text_carrier.specs.declared.faults.CarryFault.TheVariants as faults
use Rattle.wire_bytes.specs.declared.contexts.ContextFault.{ContextFault}
use Rattle.wire_bytes.specs.declared.contexts.ContextFault.TheVariants as contexts
use Rattle.piece_calls.specs.declared.refusals.PieceCode.{PieceCode}
use Rattle.piece_calls.specs.declared.refusals.PieceCode.TheVariants.{Form, PieceRange, BadBase64, OtherCount, Clash, NoLine, Missing, TooManyBytes}
use Rattle.piece_calls.specs.declared.refusals.PieceRefusal.{PieceRefusal}
use Rattle.piece_calls.specs.declared.refusals.PieceRefusal.TheVariants.{Pieces, Fault, Memory}

-- The refusal of bytes that are no context's.
abbrev pub uncarried : ContextFault → PieceRefusal
uncarried (contexts.At offset code) = Fault offset code
uncarried contexts.Memory = Memory

-- The rule that a line breaks.
abbrev pub line_code : CarryCode → PieceCode
line_code lines.Form = Form
line_code lines.PieceRange = PieceRange
line_code lines.BadBase64 = BadBase64
line_code lines.OtherCount = OtherCount
line_code lines.Clash = Clash

-- The refusal of lines that say no bytes: a bad one by its number, from 1 on, or a missing piece by
-- its number, from 0 on.
abbrev pub uncollected : CarryFault → PieceRefusal
uncollected (faults.At line code) = Pieces line (line_code code)
uncollected faults.NoLine = Pieces 0 NoLine
uncollected (faults.Missing piece) = Pieces piece Missing
uncollected faults.TooManyBytes = Pieces 0 TooManyBytes
uncollected faults.Memory = Memory
