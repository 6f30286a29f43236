-- What the code keeps and answers, and what it stands for.
use Rattle.std.specs.Prelude.{◌≡◌, ◌≢◌, ℕ, ◌<◌, if◌then◌else◌, List, [], ◌∷◌, codes, length, Option, Some, None}
use Rattle.std.specs.BTreeMap.{get}
use Rattle.std.specs.List.{Contains, flat_map, slice_index_or}
use Rattle.std.specs.Option.{option_map, unwrap_or}
use Rattle.std.specs.Ordering.{nat_cmp}
use Rattle.std.specs.Result.{result_ok}
use Rattle.std.specs.Str.{bytes_eq}
use Rattle.base64.specs.Engines.{standard}
use Rattle.base64.specs.GeneralPurpose.{IsBytes, decode_of}
use Rattle.text_lines.specs.Lines.{Line}
use Rattle.text_lines.specs.Readings.{IsFirstBad, IsFirstOf}
use Rattle.text_carrier.specs.declared.TheConstants.{CARRIED_MAX}
use Rattle.text_carrier.specs.declared.faults.CarryCode.{CarryCode}
use Rattle.text_carrier.specs.declared.faults.CarryCode.TheVariants.{Form, PieceRange, BadBase64, OtherCount, Clash}
use Rattle.text_carrier.specs.declared.faults.CarryFault.{CarryFault}
use Rattle.text_carrier.specs.declared.faults.CarryFault.TheVariants.{At}
use Rattle.text_carrier.specs.declared.faults.CarryFault.TheVariants as faults
use Rattle.outside.specs.declared.answers.OrMemory.{OrMemory}
use Rattle.outside.specs.declared.answers.OrMemory.TheVariants.{Fault, Memory}
use Rattle.text_carrier.specs.declared.pieces.Pieces.{Pieces}
use Rattle.text_carrier.specs.Pieces.{Piece, data_text}
use Rattle.text_carrier.specs.Rules.{PieceBreaks, carry_rules, IsBadPieceLine, piece_lines}
use Rattle.text_carrier.specs.Collecting.{HasPlace, IsFirstMissing, count_of}

-- The name of a rule, as it is printed.
abbrev pub carry_code_name : CarryCode → List ℕ
carry_code_name Form = codes "Form"
carry_code_name PieceRange = codes "PieceRange"
carry_code_name BadBase64 = codes "BadBase64"
carry_code_name OtherCount = codes "OtherCount"
carry_code_name Clash = codes "Clash"

-- The refusal of a text, by that of its line with this number.
abbrev pub carry_fault_at : ℕ → OrMemory CarryCode → CarryFault
carry_fault_at line (Fault code) = At line code
carry_fault_at line Memory = faults.Memory

-- A line that has the form is refused after these pieces: it breaks this rule first, or memory runs
-- out for it.
abbrev pub IsPieceRefused : List Piece → ℕ → ℕ → List ℕ → OrMemory CarryCode → Type 0
IsPieceRefused earlier place count word (Fault code) =
    IsFirstOf (PieceBreaks earlier place count word) carry_rules code
IsPieceRefused earlier place count word Memory = Unit {0}

-- A line is refused after these pieces: it is bad, or memory runs out for it.
abbrev pub IsRefusedPieceLine : List Piece → List ℕ → OrMemory CarryCode → Type 0
IsRefusedPieceLine earlier text (Fault code) = IsBadPieceLine earlier text code
IsRefusedPieceLine earlier text Memory = Unit {0}

-- The word is the text of these bytes, or of none.
abbrev pub IsDecoded : List ℕ → Option (List ℕ) → Type 0
IsDecoded word (Some bytes) = IsBytes bytes × (word ≡ data_text bytes)
IsDecoded word None = (bytes : List ℕ) → IsBytes bytes → word ≢ data_text bytes

-- The number of pieces that the first of them tells.
abbrev pub first_count : List Piece → Option ℕ
first_count [] = None
first_count (piece ∷ more) = Some piece.count

-- All pieces of this number have this text, and there is one; or there is none.
abbrev pub IsTextAt : List Piece → ℕ → Option (List ℕ) → Type 0
IsTextAt pieces place (Some text) =
    HasPlace pieces place
    × ((piece : Piece) → Contains pieces piece → piece.place ≡ place
    → data_text piece.bytes ≡ text)
IsTextAt pieces place None = HasPlace pieces place → ⊥

-- What is kept of the pieces that lines have said.
pub record Keeps (pieces : List Piece) (kept : Pieces) : Type 0 where
  pub count : kept.count ≡ first_count pieces
  pub texts : (place : ℕ)
      → IsTextAt pieces place (option_map (λ text. text.now) (get nat_cmp kept.texts place))
  pub are_bytes : (piece : Piece) → Contains pieces piece → IsBytes piece.bytes

-- The first bad line of these has this number and breaks this rule, or memory is out.
abbrev pub IsLineFault : List Line → CarryFault → Type 0
IsLineFault lines (At line code) = IsFirstBad piece_lines lines line code
IsLineFault lines faults.Memory = Unit {0}
IsLineFault lines other = ⊥

-- The texts are those of all pieces, in the order of their numbers.
pub record AreTextsOf (pieces : List Piece) (texts : List (List ℕ)) : Type 0 where
  pub as_many : length texts ≡ count_of pieces
  pub each : (place : ℕ) → place < length texts
      → IsTextAt pieces place (Some (slice_index_or texts place []))

-- There is no piece, or one is missing, or memory is out.
abbrev pub IsOrderFault : List Piece → CarryFault → Type 0
IsOrderFault pieces faults.NoLine = pieces ≡ []
IsOrderFault pieces (faults.Missing place) = (pieces ≢ []) × IsFirstMissing pieces place
IsOrderFault pieces faults.Memory = Unit {0}
IsOrderFault pieces other = ⊥

-- The bytes whose text a word is: none for a dash, and else those of its base64.
abbrev pub data_bytes : List ℕ → List ℕ
data_bytes word =
    if bytes_eq word (codes "-") then [] else unwrap_or (result_ok (decode_of standard word)) []

-- The bytes of some words, one after another.
abbrev pub all_bytes : List (List ℕ) → List ℕ
all_bytes words = flat_map data_bytes words

-- The word is the text of some bytes.
abbrev pub IsData : List ℕ → Type 0
IsData word = (bytes : List ℕ) × IsBytes bytes × (word ≡ data_text bytes)

-- The bytes of the words are too many, or memory runs out.
abbrev pub IsJoinFault : List (List ℕ) → CarryFault → Type 0
IsJoinFault words faults.TooManyBytes = CARRIED_MAX < length (all_bytes words)
IsJoinFault words faults.Memory = Unit {0}
IsJoinFault words other = ⊥
