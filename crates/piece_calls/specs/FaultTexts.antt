-- The texts of faults.
use Rattle.std.specs.Prelude.{ℕ, List, ◌++◌, codes}
use Rattle.std.specs.Fmt.{decimal}
use Rattle.context_model.specs.ByteCodes.{code_name}
use Rattle.wire_bytes.specs.Reading.{byte_code_of}
use Rattle.piece_calls.specs.declared.refusals.PieceCode.{PieceCode}
use Rattle.piece_calls.specs.declared.refusals.PieceCode.TheVariants.{Form, PieceRange, BadBase64, OtherCount, Clash, NoLine, Missing, TooManyBytes}
use Rattle.piece_calls.specs.declared.refusals.PieceRefusal.{PieceRefusal}
use Rattle.piece_calls.specs.declared.refusals.PieceRefusal.TheVariants as refusals

-- The name of what is wrong with lines of pieces, as it is printed.
abbrev pub piece_code_name : PieceCode → List ℕ
piece_code_name Form = codes "Form"
piece_code_name PieceRange = codes "PieceRange"
piece_code_name BadBase64 = codes "BadBase64"
piece_code_name OtherCount = codes "OtherCount"
piece_code_name Clash = codes "Clash"
piece_code_name NoLine = codes "NoLine"
piece_code_name Missing = codes "Missing"
piece_code_name TooManyBytes = codes "TooManyBytes"

-- The text of what is wrong: the line and the rule that it breaks, the missing piece, or what is
-- wrong with all lines.
abbrev pub pieces_text : ℕ → PieceCode → List ℕ
pieces_text line NoLine = codes "NoLine"
pieces_text line Missing = codes "Missing " ++ decimal line
pieces_text line TooManyBytes = codes "TooManyBytes"
pieces_text line code = codes "line " ++ (decimal line ++ (codes " " ++ piece_code_name code))

-- The text of a refusal: what is wrong with the lines, how many bytes come before the fault and its
-- code, or how many bytes there are.
abbrev pub piece_refusal_text : PieceRefusal → List ℕ
piece_refusal_text refusals.Width = codes "Width"
piece_refusal_text (refusals.Pieces line code) = pieces_text line code
piece_refusal_text (refusals.Fault offset code) =
    codes "offset " ++ (decimal offset ++ (codes " " ++ code_name (byte_code_of code)))
piece_refusal_text (refusals.Long size) = codes "Long " ++ decimal size
piece_refusal_text refusals.Memory = codes "out of memory"
piece_refusal_text (refusals.Room size) = codes "size " ++ decimal size
