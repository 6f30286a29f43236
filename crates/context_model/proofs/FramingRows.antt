-- Bytes of lists in either form, computed: a list of a header and two data, its cuts, heads and lengths that are refused, and a list
-- of one long atom.
use Rattle.std.proofs.Common.{◌≡◌, ◌+◌, ◌<◌, ◌≤◌, true, [], List, ◌∷◌, ◌++◌, length, if◌then◌else◌, Some, refl, ap, arith}
use Rattle.std.proofs.lemmas.Bool.Decides.{nat_tests}
use lib.Count.{count_leading_zeros}
use Rattle.context_model.specs.declared.TheConstants.{ATOM_MAX, LENGTH_MAX}
use Rattle.context_model.specs.declared.Form.TheVariants.{One, Two}
use Rattle.context_model.specs.Atoms.{Atom}
use Rattle.context_model.specs.Varints.{big_endian, unsigned_varint, unsigned_form, unsigned_tail}
use Rattle.context_model.specs.Framing.{base_128, mark, frames, head_len, bytes_of, bytes_in, size_of, has_long, offset_of}
use Rattle.context_model.specs.ByteCodes.ByteCode.{CutLength, BadCount, AtomTooLong, LongForm, CutBody}
use Rattle.context_model.specs.WireFault.{length_front, wire_code, head_code, IsUnframed}
use Rattle.context_model.specs.Trimmed.{kept_of, trimmed, cut_at}

-- A header and two data of four bytes.
abbrev row : List Atom
row = (248 ∷ 0 ∷ []) ∷ (0 ∷ 0 ∷ 0 ∷ 0 ∷ 7 ∷ []) ∷ (0 ∷ 0 ∷ 0 ∷ 0 ∷ 9 ∷ []) ∷ []

row_bytes : bytes_of Two row ≡ 255 ∷ 255 ∷ 255 ∷ 2 ∷ 0 ∷ 0 ∷ 0 ∷ 0 ∷ 0 ∷ 0 ∷ 0 ∷ 15 ∷ 2 ∷ 248 ∷ 0 ∷ 5 ∷ 0 ∷ 0 ∷ 0 ∷ 0 ∷ 7 ∷ 5 ∷ 0 ∷ 0 ∷ 0 ∷ 0 ∷ 9 ∷ []
unfolding unsigned_varint unsigned_form unsigned_tail
row_bytes = refl

row_narrow : size_of One row ≡ 15
unfolding base_128
row_narrow = refl

-- It is cut to 26 bytes after the first datum, since 12 + 3 + 6 + 1 = 22 fit and 27 don't, and to
-- 21 after the header.
row_whole : trimmed Two row 27 ≡ row
unfolding trimmed kept_of unsigned_varint unsigned_form unsigned_tail
row_whole = refl

row_26 : kept_of Two row 26 ≡ 2
unfolding kept_of unsigned_varint unsigned_form unsigned_tail
row_26 = refl

row_22 : bytes_of Two (trimmed Two row 22) ≡ 255 ∷ 255 ∷ 255 ∷ 2 ∷ 0 ∷ 0 ∷ 0 ∷ 0 ∷ 0 ∷ 0 ∷ 0 ∷ 10 ∷ 2 ∷ 248 ∷ 0 ∷ 5 ∷ 0 ∷ 0 ∷ 0 ∷ 0 ∷ 7 ∷ 0 ∷ []
unfolding trimmed kept_of unsigned_varint unsigned_form unsigned_tail
row_22 = refl

row_21 : kept_of Two row 21 ≡ 1
unfolding kept_of unsigned_varint unsigned_form unsigned_tail
row_21 = refl

row_13 : bytes_of Two (trimmed Two row 13) ≡ 255 ∷ 255 ∷ 255 ∷ 2 ∷ 0 ∷ 0 ∷ 0 ∷ 0 ∷ 0 ∷ 0 ∷ 0 ∷ 1 ∷ 0 ∷ []
unfolding trimmed kept_of unsigned_varint unsigned_form unsigned_tail
row_13 = refl

row_one_15 : trimmed One row 15 ≡ row
unfolding trimmed kept_of base_128
row_one_15 = refl

row_one_14 : kept_of One row 14 ≡ 2
unfolding kept_of base_128
row_one_14 = refl

-- No atoms have a head in form two, and nothing in form one.
no_atoms : bytes_of Two [] ≡ 255 ∷ 255 ∷ 255 ∷ 2 ∷ 0 ∷ 0 ∷ 0 ∷ 0 ∷ 0 ∷ 0 ∷ 0 ∷ 0 ∷ []
no_atoms = refl

no_bytes : bytes_of One [] ≡ []
no_bytes = refl

-- ---- heads

no_count : head_code Two mark ≡ Some CutLength
no_count = refl

half_count : head_code Two (mark ++ 0 ∷ 0 ∷ 0 ∷ 0 ∷ 0 ∷ 0 ∷ 0 ∷ []) ≡ Some CutLength
half_count = refl

other_count : head_code Two (mark ++ big_endian 8 1 ++ 2 ∷ 248 ∷ 0 ∷ []) ≡ Some BadCount
other_count = refl

-- Form one refuses the mark as a length.
mark_in_one : wire_code mark ≡ Some AtomTooLong
unfolding wire_code length_front
mark_in_one = refl

-- ---- lengths of form two

open_byte : IsUnframed Two (128 ∷ []) CutLength
unfolding count_leading_zeros
open_byte = omega arith

long_zero : IsUnframed Two (128 ∷ 0 ∷ []) LongForm
unfolding unsigned_form unsigned_tail
long_zero = record { tail = 1; value = 0; room = omega arith; longer = omega arith; front = ([], refl) }

too_long : IsUnframed Two (208 ∷ 0 ∷ 1 ∷ []) AtomTooLong
unfolding unsigned_varint unsigned_form unsigned_tail
too_long = (1048577, 3, record { fits = omega arith; front = ([], refl); whole = refl }, omega arith)

cut_body : IsUnframed Two (3 ∷ []) CutBody
unfolding unsigned_varint unsigned_form unsigned_tail
cut_body = (3, 1, record { fits = omega arith; front = ([], refl); whole = refl }, omega arith, omega arith)

greatest_length : unsigned_varint 1048576 ≡ 208 ∷ 0 ∷ 0 ∷ []
unfolding unsigned_varint unsigned_form unsigned_tail
greatest_length = refl

-- ---- a list of one atom that is too long for form one

module _ (atom : Atom) (long : LENGTH_MAX < length atom) (short : length atom ≤ ATOM_MAX) where
  is_long : has_long (atom ∷ []) ≡ true
  is_long = grind (arith, nat_tests)

  -- It is written in form two, where form one is asked for: a head, three bytes of its length, and its bytes.
  long_size : size_of One (atom ∷ []) ≡ size_of Two (atom ∷ [])
  long_size = ap (λ b. length (bytes_in (if b then Two else One) (atom ∷ []))) is_long

  -- The bytes before it are those of the head, though there are no bytes of atoms before it.
  long_offset : offset_of One (atom ∷ []) 0 ≡ 12
  long_offset = let e : offset_of One (atom ∷ []) 0 ≡ 12 + 0 = ap (λ b. head_len (if b then Two else One) + length (frames (if b then Two else One) [])) is_long in omega arith

-- Cut before it, the list is written in form one again.
long_cut : (atom : Atom) → bytes_of One (cut_at 0 (atom ∷ [])) ≡ 0 ∷ []
unfolding base_128
long_cut atom = refl
