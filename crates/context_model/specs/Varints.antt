-- Numbers as byte strings whose order is that of the numbers: varints, unsigned and signed.
use Rattle.std.specs.Prelude.{◌≡◌, ℕ, ℤ, pos, negsuc, zero, suc, ◌+◌, ◌-◌, ◌/◌, ◌%◌, ◌^◌, ◌<◌, ◌≤◌, nat_le, List, [], ◌∷◌, ◌++◌, length, map, count_by}
use Rattle.std.specs.Int.{leading_ones, w8}

-- The `width` lowest bytes of a number, most significant first.
abbrev pub big_endian : ℕ → ℕ → List ℕ
big_endian zero n = []
big_endian (suc width) n = n / 256 ^ width % 256 ∷ big_endian width n

-- Unsigned. With k bytes after the first, the first one begins with k ones and, where there is
-- room, a zero. The other bits hold the number, most significant first.
unfoldable pub unsigned_form : ℕ → ℕ → List ℕ
unsigned_form k n = (256 - 2 ^ (8 - k) + n / 256 ^ k) ∷ big_endian k n

-- How many bytes follow the first in the shortest form: one for each of these limits that the
-- number reaches.
unfoldable pub unsigned_tail : ℕ → ℕ
unsigned_tail n =
    count_by (λ limit. nat_le limit n)
    (2 ^ 7 ∷ 2 ^ 14 ∷ 2 ^ 21 ∷ 2 ^ 28 ∷ 2 ^ 35 ∷ 2 ^ 42 ∷ 2 ^ 49 ∷ 2 ^ 56 ∷ [])

-- The unsigned varint of a number below 2 ^ 64 is its shortest form.
unfoldable pub unsigned_varint : ℕ → List ℕ
unsigned_varint n = unsigned_form (unsigned_tail n) n

-- Signed, of a number from 0 on: the same with a one more in the first byte, to tell it from the
-- negative numbers. With eight bytes after the first, the first one has room for ones alone.
unfoldable pub natural_form : ℕ → ℕ → List ℕ
natural_form k n = (256 - 2 ^ (7 - k) + n / 256 ^ k) ∷ big_endian k n

-- One byte for each limit that the number reaches, and at the last limit two: no form has seven.
unfoldable pub natural_tail : ℕ → ℕ
natural_tail n =
    count_by (λ limit. nat_le limit n)
    (2 ^ 6 ∷ 2 ^ 13 ∷ 2 ^ 20 ∷ 2 ^ 27 ∷ 2 ^ 34 ∷ 2 ^ 41 ∷ 2 ^ 48 ∷ 2 ^ 48 ∷ [])

-- Each byte with each of its bits turned.
unfoldable pub complement : List ℕ → List ℕ
complement bytes = map (λ b. 255 - b) bytes

-- The form of -1 - n is that of n with each bit turned; negsuc n is -1 - n.
unfoldable pub signed_form : ℕ → ℤ → List ℕ
signed_form k (pos n) = natural_form k n
signed_form k (negsuc n) = complement (natural_form k n)

-- The number of bytes after the first one in the shortest form of a number with a sign.
unfoldable pub signed_tail : ℤ → ℕ
signed_tail (pos n) = natural_tail n
signed_tail (negsuc n) = natural_tail n

-- The signed varint of a number from -2 ^ 63 to 2 ^ 63 - 1 is its shortest form.
unfoldable pub signed_varint : ℤ → List ℕ
signed_varint z = signed_form (signed_tail z) z

-- ---- what bytes begin with: an unsigned varint, a longer form of one, or too few bytes

-- The bytes begin with this prefix.
abbrev pub BeginsWith : List ℕ → List ℕ → Type 0
BeginsWith bytes front = (rest : List ℕ) × (bytes ≡ front ++ rest)

-- The bytes begin with the varint of the value, which has `count` bytes.
pub record IsUnsignedAt (bytes : List ℕ) (value count : ℕ) : Type 0 where
  pub fits : value < 2 ^ 64
  pub front : BeginsWith bytes (unsigned_varint value)
  pub whole : count ≡ length (unsigned_varint value)

-- There is no first byte, or fewer bytes follow it than it begins with ones.
abbrev pub IsUnsignedCut : List ℕ → Type 0
IsUnsignedCut [] = Unit {0}
IsUnsignedCut (first ∷ rest) = length rest < leading_ones w8 first

-- The bytes begin with a number in a form that is longer than its shortest.
pub record IsUnsignedLong (bytes : List ℕ) : Type 0 where
  pub tail : ℕ
  pub value : ℕ
  pub room : tail ≤ 8
  pub longer : unsigned_tail value < tail
  pub front : BeginsWith bytes (unsigned_form tail value)
