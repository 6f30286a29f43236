-- The bytes of a list in either form, and their number.
use Rattle.std.specs.Prelude.{◌≡◌, ℕ, ◌+◌, ◌/◌, ◌%◌, ◌≤◌, Bool, List, [], ◌∷◌, ◌++◌, length, take, nat_lt, if◌then◌else◌}
use Rattle.std.specs.List.{flat_map, list_any, AllByRecursion}
use Rattle.std.specs.Str.{bytes_eq}
use Rattle.context_model.specs.declared.TheConstants.{ATOM_MAX, HEAD_LEN, LENGTH_MAX}
use Rattle.context_model.specs.declared.Form.{Form}
use Rattle.context_model.specs.declared.Form.TheVariants.{One, Two}
use Rattle.context_model.specs.Atoms.{Atom}
use Rattle.context_model.specs.Varints.{big_endian, unsigned_varint}

-- ---- frames

-- A number below 2,097,152 in base 128, the least significant group first and no group too many:
-- each byte but the last has its top bit set.
unfoldable pub base_128 : ℕ → List ℕ
base_128 n =
    if nat_lt n 128 then n ∷ []
    else if nat_lt n 16384 then (n % 128 + 128) ∷ (n / 128) ∷ []
    else (n % 128 + 128) ∷ (n / 128 % 128 + 128) ∷ (n / 16384) ∷ []

-- The length of an atom: in base 128, or as an unsigned varint.
abbrev pub length_code : Form → ℕ → List ℕ
length_code One n = base_128 n
length_code Two n = unsigned_varint n

-- The length of an atom, and then the atom.
abbrev pub frame : Form → Atom → List ℕ
frame form atom = length_code form (length atom) ++ atom

-- The frames of a list, one after the other.
abbrev pub frames : Form → List Atom → List ℕ
frames form list = flat_map (frame form) list

-- The greatest length of an atom that has a frame.
abbrev pub most : Form → ℕ
most One = LENGTH_MAX
most Two = ATOM_MAX

-- Each atom of the list has a frame.
abbrev pub AreWithin : Form → List Atom → Type 0
AreWithin form list = AllByRecursion (λ atom. length atom ≤ most form) list

-- The bytes are the frames of some list.
abbrev pub IsFramed : Form → List ℕ → Type 0
IsFramed form bytes = (list : List Atom) × AreWithin form list × (bytes ≡ frames form list)

-- ---- heads

-- What form two begins with, and form one never: no length of an atom has its top bit set in three
-- bytes.
abbrev pub mark : List ℕ
mark = 255 ∷ 255 ∷ 255 ∷ 2 ∷ []

-- The form that bytes are read in.
abbrev pub form_of : List ℕ → Form
form_of bytes = if bytes_eq (take 4 bytes) mark then Two else One

-- What comes before `count` bytes of frames: nothing, or the mark and `count` as eight bytes, most
-- significant first.
abbrev pub head : Form → ℕ → List ℕ
head One count = []
head Two count = mark ++ big_endian 8 count

-- How many bytes the head has.
abbrev pub head_len : Form → ℕ
head_len One = 0
head_len Two = HEAD_LEN

-- The head of a list, and then its frames.
abbrev pub bytes_in : Form → List Atom → List ℕ
bytes_in form list = head form (length (frames form list)) ++ frames form list

-- ---- the bytes of a list

-- An atom of the list is too long for form one.
abbrev pub has_long : List Atom → Bool
has_long list = list_any (λ atom. nat_lt LENGTH_MAX (length atom)) list

-- The form in which a list is written where this one is asked for: a list with such an atom is
-- written in form two.
abbrev pub written_in : Form → List Atom → Form
written_in One list = if has_long list then Two else One
written_in Two list = Two

-- The bytes of a list, where this form is asked for.
abbrev pub bytes_of : Form → List Atom → List ℕ
bytes_of form list = bytes_in (written_in form list) list

-- How many bytes it has.
abbrev pub size_of : Form → List Atom → ℕ
size_of form list = length (bytes_of form list)

-- How many of its bytes come before the atom at a place: the head, and the frames of the atoms
-- before. It isn't the size of these, which may be written without a head.
abbrev pub offset_of : Form → List Atom → ℕ → ℕ
offset_of form list place =
    head_len (written_in form list) + length (frames (written_in form list) (take place list))

-- The least budget that a list can be cut to: the head and a marker.
abbrev pub least_budget : Form → ℕ
least_budget form = head_len form + 1

-- The bytes are those of this list, in the form that they are read in.
abbrev pub IsBytesOf : List Atom → List ℕ → Type 0
IsBytesOf list bytes = bytes ≡ bytes_of (form_of bytes) list
