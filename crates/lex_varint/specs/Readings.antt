-- What bytes begin with: a varint, a longer form of one, a number out of range, or too few bytes.
use Rattle.std.specs.Prelude.{◌≡◌, ℕ, ℤ, pos, negsuc, ◌-◌, ◌^◌, ◌<◌, ◌≤◌, ◌⊎◌, Bool, true, false, if◌then◌else◌, nat_lt, ◌==◌, List, [], ◌∷◌, length, FitsSigned}
use Rattle.std.specs.Int.{leading_ones, w8, w64}
use Rattle.context_model.specs.Varints.{signed_form, signed_tail, signed_varint, complement}
pub use Rattle.context_model.specs.Varints.{BeginsWith, IsUnsignedAt, IsUnsignedCut, IsUnsignedLong}

-- ---- signed

-- The bytes begin with the varint of the value, which has `count` bytes.
pub record IsSignedAt (bytes : List ℕ) (value : ℤ) (count : ℕ) : Type 0 where
  pub fits : FitsSigned w64 value
  pub front : BeginsWith bytes (signed_varint value)
  pub whole : count ≡ length (signed_varint value)

-- How many bytes a first byte demands after it: one for each one that it begins with except the
-- first, and eight where it begins with eight ones.
abbrev pub natural_demand : ℕ → ℕ
natural_demand first = if leading_ones w8 first == 8 then 8 else leading_ones w8 first - 1

-- The codes of negative numbers have each bit turned.
abbrev pub signed_demand : ℕ → ℕ
signed_demand first = natural_demand (if nat_lt first 128 then 255 - first else first)

-- There is no first byte, or fewer bytes follow it than are to.
abbrev pub IsSignedCut : List ℕ → Type 0
IsSignedCut [] = Unit {0}
IsSignedCut (first ∷ rest) = length rest < signed_demand first

-- The bytes begin with a number in a form that is longer than its shortest.
pub record IsSignedLong (bytes : List ℕ) : Type 0 where
  pub tail : ℕ
  pub value : ℤ
  pub room : (tail < 7) ⊎ (tail ≡ 8)
  pub longer : signed_tail value < tail
  pub front : BeginsWith bytes (signed_form tail value)

-- The bytes begin with the form that has eight bytes after the first, and these hold 2 ^ 63 or
-- more.
pub record IsSignedOut (bytes : List ℕ) : Type 0 where
  pub number : ℕ
  pub eight : number < 2 ^ 64
  pub beyond : 2 ^ 63 ≤ number
  pub front :
      BeginsWith bytes (signed_form 8 (pos number))
      ⊎ BeginsWith bytes (signed_form 8 (negsuc number))

-- The bytes with each bit turned where they are to be.
abbrev pub turned : Bool → List ℕ → List ℕ
turned true bytes = complement bytes
turned false bytes = bytes

-- The number itself, or the one on the other side of zero.
abbrev pub with_sign : Bool → ℕ → ℤ
with_sign false n = pos n
with_sign true n = negsuc n
