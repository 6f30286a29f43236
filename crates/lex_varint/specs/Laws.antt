-- What holds of all codes: each is read back, none begins another, and their order is that of the
-- numbers.
use Rattle.std.specs.Prelude.{◌≡◌, ℕ, ℤ, ◌^◌, ◌<◌, List, ◌++◌, length, FitsSigned}
use Rattle.std.specs.Int.{w64}
use Rattle.std.specs.Ordering.{nat_cmp, int_cmp, ordering_then}
use Rattle.std.specs.Cmp.Lexicographic.{slice_cmp}
use Rattle.context_model.specs.Varints.{unsigned_varint, signed_varint}
use Rattle.lex_varint.specs.Readings.{IsUnsignedAt, IsSignedAt}

-- The code of an unsigned number is read back, whatever follows it.
abbrev pub UnsignedReadsBack : Type 0
UnsignedReadsBack =
    (value : ℕ) (rest : List ℕ) → value < 2 ^ 64
    → IsUnsignedAt (unsigned_varint value ++ rest) value (length (unsigned_varint value))

-- The code of a signed number is read back, whatever follows it.
abbrev pub SignedReadsBack : Type 0
SignedReadsBack =
    (value : ℤ) (rest : List ℕ) → FitsSigned w64 value
    → IsSignedAt (signed_varint value ++ rest) value (length (signed_varint value))

-- No code of an unsigned number begins that of another.
abbrev pub UnsignedCodesStandApart : Type 0
UnsignedCodesStandApart =
    (m n : ℕ) (s t : List ℕ) → m < 2 ^ 64 → n < 2 ^ 64
    → unsigned_varint m ++ s ≡ unsigned_varint n ++ t → m ≡ n

-- No code of a signed number begins that of another.
abbrev pub SignedCodesStandApart : Type 0
SignedCodesStandApart =
    (y z : ℤ) (s t : List ℕ) → FitsSigned w64 y → FitsSigned w64 z
    → signed_varint y ++ s ≡ signed_varint z ++ t → y ≡ z

-- The order of two codes of unsigned numbers is that of the numbers, and where these are equal that
-- of what follows.
abbrev pub UnsignedCodesKeepOrder : Type 0
UnsignedCodesKeepOrder =
    (m n : ℕ) (s t : List ℕ) → m < 2 ^ 64 → n < 2 ^ 64
    → slice_cmp nat_cmp (unsigned_varint m ++ s) (unsigned_varint n ++ t)
    ≡ ordering_then (nat_cmp m n) (slice_cmp nat_cmp s t)

-- The order of two codes of signed numbers is that of the numbers, and where these are equal that
-- of what follows.
abbrev pub SignedCodesKeepOrder : Type 0
SignedCodesKeepOrder =
    (y z : ℤ) (s t : List ℕ) → FitsSigned w64 y → FitsSigned w64 z
    → slice_cmp nat_cmp (signed_varint y ++ s) (signed_varint z ++ t)
    ≡ ordering_then (int_cmp y z) (slice_cmp nat_cmp s t)
