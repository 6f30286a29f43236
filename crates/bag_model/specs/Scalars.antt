-- Scalars: their kinds, their values with an order, and how each is spelled in bytes.
use Rattle.std.specs.Prelude.{ℕ, zero, suc, ℤ, pos, negsuc, ◌+◌, ◌-◌, ◌^◌, ◌<◌, Bool, true, false, if◌then◌else◌, List, [], ◌∷◌, ◌++◌, IsUtf8, FitsSigned}
use Rattle.std.specs.Int.{w32, w64}
use Rattle.std.specs.List.{flat_map}
use Rattle.std.specs.Ordering.{nat_cmp, int_cmp, on, then_cmp, flip_args}
use Rattle.std.specs.declared.cmp.Ordering.{Ordering}
use Rattle.std.specs.Cmp.Lexicographic.{slice_cmp}
use Rattle.context_model.specs.Varints.{big_endian, unsigned_varint, signed_varint}
use Rattle.bag_model.specs.declared.Pick.{Pick}
use Rattle.bag_model.specs.declared.Pick.TheVariants.{Least, Greatest}
use Rattle.bag_model.specs.declared.words.ScalarWord.{ScalarWord}
use Rattle.bag_model.specs.declared.words.ScalarWord.TheVariants.{Bool as Boolean, Int32, Int64, Sint32, Sint64, Uint32, Uint64, Fixed32, Fixed64, Sfixed32, Sfixed64, Str, Bytes}

-- The scalar words of a definition.
abbrev pub Word : Type 0
Word = ScalarWord

-- A word, or a struct whose fields have these words.
pub data ScalarKind : Type 0 where
  One : Word → ScalarKind
  Packed : List Word → ScalarKind

-- The value of a word.
pub data Plain : Type 0 where
  Truth : Bool → Plain
  Signed : ℤ → Plain
  Unsigned : ℕ → Plain
  Text : List ℕ → Plain
  Octets : List ℕ → Plain

-- The value of a word, or those of a struct's fields.
pub data ScalarValue : Type 0 where
  One : Plain → ScalarValue
  Packed : List Plain → ScalarValue

-- How the values of a word are spelled; a number's form is of 64 bits where it says true, else of
-- 32.
pub data SpellingForm : Type 0 where
  TruthByte : SpellingForm
  UnsignedVarint SignedVarint FixedBytes SignedFixedBytes : Bool → SpellingForm
  TextBytes RawBytes : SpellingForm

-- The form of the values of a word.
abbrev pub spelling_form_of : Word → SpellingForm
spelling_form_of Boolean = TruthByte
spelling_form_of Int32 = SignedVarint false
spelling_form_of Int64 = SignedVarint true
spelling_form_of Sint32 = SignedVarint false
spelling_form_of Sint64 = SignedVarint true
spelling_form_of Uint32 = UnsignedVarint false
spelling_form_of Uint64 = UnsignedVarint true
spelling_form_of Fixed32 = FixedBytes false
spelling_form_of Fixed64 = FixedBytes true
spelling_form_of Sfixed32 = SignedFixedBytes false
spelling_form_of Sfixed64 = SignedFixedBytes true
spelling_form_of Str = TextBytes
spelling_form_of Bytes = RawBytes

-- A number that is not negative has at most 64 bits where it is wide, and at most 32 otherwise.
abbrev pub IsUnsigned : Bool → ℕ → Type 0
IsUnsigned false n = n < 2 ^ 32
IsUnsigned true n = n < 2 ^ 64

-- A number has, with its sign, at most 64 bits where it is wide, and at most 32 otherwise.
abbrev pub IsSigned : Bool → ℤ → Type 0
IsSigned false z = FitsSigned w32 z
IsSigned true z = FitsSigned w64 z

-- The value has the form, and is in its range.
abbrev pub IsOfForm : SpellingForm → Plain → Type 0
IsOfForm TruthByte (Truth b) = Unit {0}
IsOfForm (UnsignedVarint wide) (Unsigned n) = IsUnsigned wide n
IsOfForm (SignedVarint wide) (Signed z) = IsSigned wide z
IsOfForm (FixedBytes wide) (Unsigned n) = IsUnsigned wide n
IsOfForm (SignedFixedBytes wide) (Signed z) = IsSigned wide z
IsOfForm TextBytes (Text bs) = IsUtf8 bs
IsOfForm RawBytes (Octets bs) = Unit {0}
IsOfForm _ _ = ⊥

-- The value is one of the word's.
abbrev pub IsPlainOf : Word → Plain → Type 0
IsPlainOf word v = IsOfForm (spelling_form_of word) v

-- Each field's value is of the field's word, and there is one for each.
abbrev pub ArePlainsOf : List Word → List Plain → Type 0
ArePlainsOf [] [] = Unit {0}
ArePlainsOf (word ∷ words) (v ∷ vs) = IsPlainOf word v × ArePlainsOf words vs
ArePlainsOf _ _ = ⊥

-- The value is of the kind.
abbrev pub IsScalarOf : ScalarKind → ScalarValue → Type 0
IsScalarOf (One word) (One v) = IsPlainOf word v
IsScalarOf (Packed words) (Packed vs) = ArePlainsOf words vs
IsScalarOf _ _ = ⊥

-- ---- the order of values

-- Values of different words come one after another, in the order of `Plain`.
abbrev pub plain_rank : Plain → ℕ
plain_rank (Truth b) = 0
plain_rank (Signed z) = 1
plain_rank (Unsigned n) = 2
plain_rank (Text bs) = 3
plain_rank (Octets bs) = 4

-- The number that a plain value is; 0 where it is a text or a byte string.
abbrev pub plain_number : Plain → ℤ
plain_number (Truth b) = if b then pos 1 else pos 0
plain_number (Signed z) = z
plain_number (Unsigned n) = pos n
plain_number (Text bs) = pos 0
plain_number (Octets bs) = pos 0

-- The bytes that a plain value is; none where it is a truth value or a number.
abbrev pub plain_bytes : Plain → List ℕ
plain_bytes (Text bs) = bs
plain_bytes (Octets bs) = bs
plain_bytes _ = []

-- False before true, numbers by size, and byte strings byte by byte.
abbrev pub plain_cmp : Plain → Plain → Ordering
plain_cmp =
    then_cmp (on plain_rank nat_cmp)
    (then_cmp (on plain_number int_cmp) (on plain_bytes (slice_cmp nat_cmp)))

-- Values that are no structs come before structs.
abbrev pub scalar_rank : ScalarValue → ℕ
scalar_rank (One v) = 0
scalar_rank (Packed vs) = 1

-- The plain values of a scalar: its own, or those of a struct's fields.
abbrev pub scalar_fields : ScalarValue → List Plain
scalar_fields (One v) = v ∷ []
scalar_fields (Packed vs) = vs

-- Structs field by field, after the values that are no structs.
abbrev pub scalar_cmp : ScalarValue → ScalarValue → Ordering
scalar_cmp = then_cmp (on scalar_rank nat_cmp) (on scalar_fields (slice_cmp plain_cmp))

-- The order in which the value that stays comes first: the least, or the greatest.
abbrev pub pick_cmp : Pick → ScalarValue → ScalarValue → Ordering
pick_cmp Least = scalar_cmp
pick_cmp Greatest = flip_args scalar_cmp

-- ---- spellings

-- One byte: 0 for false and 1 for true.
abbrev pub truth_bytes : Bool → List ℕ
truth_bytes false = 0 ∷ []
truth_bytes true = 1 ∷ []

-- Four or eight bytes, most significant first.
abbrev pub fixed_bytes : Bool → ℕ → List ℕ
fixed_bytes false n = big_endian 4 n
fixed_bytes true n = big_endian 8 n

-- Two's complement with the sign bit flipped: how far the number is above the least one of 64 or of
-- 32 bits.
abbrev pub sign_flipped : Bool → ℤ → ℕ
sign_flipped false (pos n) = 2 ^ 31 + n
sign_flipped false (negsuc n) = 2 ^ 31 - suc n
sign_flipped true (pos n) = 2 ^ 63 + n
sign_flipped true (negsuc n) = 2 ^ 63 - suc n

-- A number with its sign in four or eight bytes.
abbrev pub signed_fixed_bytes : Bool → ℤ → List ℕ
signed_fixed_bytes wide z = fixed_bytes wide (sign_flipped wide z)

-- A value by itself, in a form that it has.
abbrev pub plain_spelling : SpellingForm → Plain → List ℕ
plain_spelling TruthByte (Truth b) = truth_bytes b
plain_spelling (UnsignedVarint wide) (Unsigned n) = unsigned_varint n
plain_spelling (SignedVarint wide) (Signed z) = signed_varint z
plain_spelling (FixedBytes wide) (Unsigned n) = fixed_bytes wide n
plain_spelling (SignedFixedBytes wide) (Signed z) = signed_fixed_bytes wide z
plain_spelling TextBytes (Text bs) = bs
plain_spelling RawBytes (Octets bs) = bs
plain_spelling _ _ = []

-- A zero byte is followed by the byte 255.
abbrev pub escape : ℕ → List ℕ
escape zero = 0 ∷ 255 ∷ []
escape (suc b) = suc b ∷ []

-- Each zero byte is followed by 255, and 0 and 1 are at the end.
abbrev pub terminated : List ℕ → List ℕ
terminated bs = flat_map escape bs ++ 0 ∷ 1 ∷ []

-- The forms whose bytes don't tell by themselves where they end.
abbrev pub needs_end : SpellingForm → Bool
needs_end TextBytes = true
needs_end RawBytes = true
needs_end _ = false

-- A value as a field of a struct.
abbrev pub field_spelling : SpellingForm → Plain → List ℕ
field_spelling form v =
    if needs_end form then terminated (plain_spelling form v) else plain_spelling form v

-- The fields of a struct, one after another.
abbrev pub packed_spelling : List Word → List Plain → List ℕ
packed_spelling (word ∷ words) (v ∷ vs) =
    field_spelling (spelling_form_of word) v ++ packed_spelling words vs
packed_spelling _ _ = []

-- The bytes of a value of a kind.
abbrev pub spelling : ScalarKind → ScalarValue → List ℕ
spelling (One word) (One v) = plain_spelling (spelling_form_of word) v
spelling (Packed words) (Packed vs) = packed_spelling words vs
spelling _ _ = []
