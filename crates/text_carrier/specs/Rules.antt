-- What a line says after other lines, and the rules for it.
use Rattle.std.specs.Prelude.{◌≡◌, ◌≢◌, ◌⊎◌, ℕ, ◌^◌, ◌<◌, ◌≤◌, List, [], ◌∷◌, length}
use Rattle.std.specs.List.{Contains}
use Rattle.base64.specs.GeneralPurpose.{IsBytes}
use Rattle.text_lines.specs.Readings.{Reading, IsFirstOf, NoneOf}
use Rattle.text_lines.specs.Words.{HasNoSpace}
use Rattle.text_carrier.specs.declared.TheConstants.{PIECES_MAX}
use Rattle.text_carrier.specs.declared.faults.CarryCode.{CarryCode}
use Rattle.text_carrier.specs.declared.faults.CarryCode.TheVariants.{Form, PieceRange, BadBase64, OtherCount, Clash}
use Rattle.text_carrier.specs.Pieces.{Piece, data_text, line_in_piece_form}

-- The line has the form: two numbers of at most seven digits, and a word of one or more bytes,
-- whatever they are.
pub record HasPieceForm (text : List ℕ) (place count : ℕ) (word : List ℕ) : Type 0 where
  pub place_few : place < 10 ^ 7
  pub count_few : count < 10 ^ 7
  pub word_some : 0 < length word
  pub word_whole : HasNoSpace word
  pub is : text ≡ line_in_piece_form place count word

-- The number of pieces isn't that of the first line.
abbrev pub IsOtherCount : List Piece → ℕ → Type 0
IsOtherCount [] count = ⊥
IsOtherCount (first ∷ more) count = count ≢ first.count

-- The line breaks the rule of this code after those that said these pieces.
abbrev pub PieceBreaks : List Piece → ℕ → ℕ → List ℕ → CarryCode → Type 0
PieceBreaks earlier place count word Form = ⊥
PieceBreaks earlier place count word PieceRange =
    (count ≡ 0) ⊎ ((PIECES_MAX < count) ⊎ (count ≤ place))
PieceBreaks earlier place count word BadBase64 =
    (bytes : List ℕ) → IsBytes bytes → word ≢ data_text bytes
PieceBreaks earlier place count word OtherCount = IsOtherCount earlier count
PieceBreaks earlier place count word Clash =
    (other : Piece) × Contains earlier other × (other.place ≡ place)
    × (data_text other.bytes ≢ word)

-- The rules for a line that has the form, in the order in which they count.
abbrev pub carry_rules : List CarryCode
carry_rules = PieceRange ∷ BadBase64 ∷ OtherCount ∷ Clash ∷ []

-- The line says this piece and breaks no rule.
abbrev pub IsGoodPiece : List Piece → List ℕ → Piece → Type 0
IsGoodPiece earlier text piece =
    HasPieceForm text piece.place piece.count (data_text piece.bytes) × IsBytes piece.bytes
    × NoneOf (PieceBreaks earlier piece.place piece.count (data_text piece.bytes)) carry_rules

-- The line has no form.
abbrev pub HasNoForm : List ℕ → Type 0
HasNoForm text = (place count : ℕ) (word : List ℕ) → HasPieceForm text place count word → ⊥

-- The line hasn't the form, or this is the first rule that it breaks.
abbrev pub IsBadPieceLine : List Piece → List ℕ → CarryCode → Type 0
IsBadPieceLine earlier text code =
    (HasNoForm text × (code ≡ Form))
    ⊎ ((place count : ℕ) × (word : List ℕ) × HasPieceForm text place count word
    × IsFirstOf (PieceBreaks earlier place count word) carry_rules code)

-- Lines say pieces, each after those before it.
abbrev pub piece_lines : Reading Piece CarryCode
piece_lines = record { says = IsGoodPiece; faults = IsBadPieceLine }
