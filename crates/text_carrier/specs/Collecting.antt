-- What all lines say: bytes, or what is wrong.
use Rattle.std.specs.Prelude.{◌≡◌, ◌≢◌, ◌⊎◌, ℕ, ◌<◌, ◌≤◌, List, [], ◌∷◌, length, Some, Result, Ok, Err}
use Rattle.std.specs.List.{Contains, concat, slice_get}
use Rattle.text_lines.specs.Lines.{Line}
use Rattle.text_lines.specs.Readings.{AllSay, IsFirstBad}
use Rattle.text_carrier.specs.declared.TheConstants.{CARRIED_MAX}
use Rattle.text_carrier.specs.declared.faults.CarryFault.{CarryFault}
use Rattle.text_carrier.specs.declared.faults.CarryFault.TheVariants.{At, NoLine, Missing, TooManyBytes, Memory}
use Rattle.text_carrier.specs.Pieces.{Piece}
use Rattle.text_carrier.specs.Rules.{piece_lines}

-- A piece has this number.
abbrev pub HasPlace : List Piece → ℕ → Type 0
HasPlace pieces place = (piece : Piece) × Contains pieces piece × (piece.place ≡ place)

-- How many pieces the first line speaks of.
abbrev pub count_of : List Piece → ℕ
count_of [] = 0
count_of (piece ∷ more) = piece.count

-- The bytes are those of a piece of this number.
abbrev pub IsPart : List Piece → ℕ → List ℕ → Type 0
IsPart pieces place part =
    (piece : Piece) × Contains pieces piece × (piece.place ≡ place) × (piece.bytes ≡ part)

-- All pieces are there, and these are their bytes in the order of their numbers, each once.
pub record AreWhole (pieces : List Piece) (bytes : List ℕ) : Type 0 where
  pub parts : List (List ℕ)
  pub as_many : length parts ≡ count_of pieces
  pub each : (place : ℕ) (part : List ℕ) → slice_get parts place ≡ Some part
      → IsPart pieces place part
  pub joined : bytes ≡ concat parts

-- The number is the least that no piece has.
pub record IsFirstMissing (pieces : List Piece) (place : ℕ) : Type 0 where
  pub within : place < count_of pieces
  pub missing : HasPlace pieces place → ⊥
  pub first : (other : ℕ) → other < place → HasPlace pieces other

-- The lines say these pieces, of which there is at least one.
abbrev pub SaySome : List Line → List Piece → Type 0
SaySome lines pieces = AllSay piece_lines [] lines pieces × (pieces ≢ [])

-- The lines say these bytes, or are refused so. Where memory ran out, nothing is claimed.
abbrev pub Collects : List Line → Result (List ℕ) CarryFault → Type 0
Collects lines (Ok bytes) =
    (pieces : List Piece) × SaySome lines pieces × AreWhole pieces bytes
    × (length bytes ≤ CARRIED_MAX)
Collects lines (Err (At line code)) = IsFirstBad piece_lines lines line code
Collects lines (Err NoLine) = lines ≡ []
Collects lines (Err (Missing piece)) =
    (pieces : List Piece) × SaySome lines pieces × IsFirstMissing pieces piece
Collects lines (Err TooManyBytes) =
    (pieces : List Piece) × (bytes : List ℕ) × SaySome lines pieces × AreWhole pieces bytes
    × (CARRIED_MAX < length bytes)
Collects lines (Err Memory) = Unit {0}

-- Lines collect to one answer, except where memory runs out.
abbrev pub CollectOneWay : Type 0
CollectOneWay =
    (lines : List Line) (a b : Result (List ℕ) CarryFault) → Collects lines a → Collects lines b
    → (a ≡ b) ⊎ ((a ≡ Err Memory) ⊎ (b ≡ Err Memory))
