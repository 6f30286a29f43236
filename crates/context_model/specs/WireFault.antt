-- The first fault of bytes that aren't those of a list: what is wrong with their head, or where the
-- longest prefix after it that is a list ends, and why it ends there.
use Rattle.std.specs.Prelude.{◌≡◌, ◌⊎◌, ℕ, ◌+◌, ◌-◌, ◌*◌, ◌%◌, ◌<◌, ◌≤◌, Bool, ◌==◌, ◌&&◌, ◌||◌, List, [], ◌∷◌, length, take, drop, slice_index, nat_lt, nat_le, if◌then◌else◌, Option, Some, None}
use Rattle.std.specs.List.{list_all}
use Rattle.std.specs.Str.{bytes_eq}
use Rattle.context_model.specs.declared.TheConstants.{ATOM_MAX, HEAD_LEN, LENGTH_MAX}
use Rattle.context_model.specs.Atoms.{Atom, AreAtoms}
use Rattle.context_model.specs.declared.Form.{Form}
use Rattle.context_model.specs.declared.Form.TheVariants.{One, Two}
use Rattle.context_model.specs.Varints.{big_endian, IsUnsignedAt, IsUnsignedCut, IsUnsignedLong}
use Rattle.context_model.specs.Framing.{bytes_of, form_of, head_len, IsFramed, IsBytesOf}
use Rattle.context_model.specs.ByteCodes.{ByteCode}
use Rattle.context_model.specs.ByteCodes.ByteCode.{CutLength, BadCount, AtomTooLong, LongForm, CutBody}

-- The bytes up to the first whose top bit isn't set, or all of them.
abbrev pub through_last : List ℕ → List ℕ
through_last [] = []
through_last (b ∷ bytes) = if nat_lt b 128 then b ∷ [] else b ∷ through_last bytes

-- The bytes of the length that comes first, at most three.
unfoldable pub length_front : List ℕ → List ℕ
length_front bytes = through_last (take 3 bytes)

-- The number that the bytes of a length say, in base 128, the least significant group first.
abbrev pub length_said : List ℕ → ℕ
length_said [] = 0
length_said (b ∷ bytes) = b % 128 + 128 * length_said bytes

-- Each byte has its top bit set, so another ought to follow.
abbrev pub is_open : List ℕ → Bool
is_open bytes = list_all (λ b. nat_le 128 b) bytes

-- The input ends inside the length.
abbrev pub cuts_length : List ℕ → Bool
cuts_length bytes = nat_lt (length (length_front bytes)) 3 && is_open (length_front bytes)

-- The third byte of the length has its top bit set, or the length is above the limit.
abbrev pub is_too_long : List ℕ → Bool
is_too_long bytes =
    is_open (length_front bytes) || nat_lt LENGTH_MAX (length_said (length_front bytes))

-- The length has more than one byte, and its last byte is 0.
abbrev pub is_long_form : List ℕ → Bool
is_long_form bytes =
    nat_lt 1 (length (length_front bytes)) &&
    (slice_index (length_front bytes) (length (length_front bytes) - 1) == 0)

-- Fewer bytes follow than the length says.
abbrev pub cuts_body : List ℕ → Bool
cuts_body bytes =
    nat_lt (length (drop (length (length_front bytes)) bytes)) (length_said (length_front bytes))

-- What is wrong with the atom of form one that begins here: the first of these that applies.
unfoldable pub wire_code : List ℕ → Option ByteCode
wire_code bytes =
    if cuts_length bytes then Some CutLength
    else if is_too_long bytes then Some AtomTooLong
    else if is_long_form bytes then Some LongForm
    else if cuts_body bytes then Some CutBody
    else None

-- ---- form two

-- What is wrong with the atom of form two that begins here. At most one of these applies, since the
-- last two ask for a length in its shortest form.
abbrev pub IsUnframedTwo : List ℕ → ByteCode → Type 0
IsUnframedTwo bytes CutLength = IsUnsignedCut bytes
IsUnframedTwo bytes LongForm = IsUnsignedLong bytes
IsUnframedTwo bytes AtomTooLong = (len count : ℕ) × IsUnsignedAt bytes len count × (ATOM_MAX < len)
IsUnframedTwo bytes CutBody =
    (len count : ℕ) × IsUnsignedAt bytes len count × (len ≤ ATOM_MAX) × (length bytes < count + len)
IsUnframedTwo bytes other = ⊥

-- What is wrong with the head: the input ends inside it, or its number isn't that of the bytes
-- after it.
abbrev pub head_code : Form → List ℕ → Option ByteCode
head_code One bytes = None
head_code Two bytes =
    if nat_lt (length bytes) HEAD_LEN then Some CutLength
    else if bytes_eq (take 8 (drop 4 bytes)) (big_endian 8 (length bytes - HEAD_LEN)) then None
    else Some BadCount

-- ---- either form

-- The code says what is wrong with the atom that begins here.
abbrev pub IsUnframed : Form → List ℕ → ByteCode → Type 0
IsUnframed One bytes code = wire_code bytes ≡ Some code
IsUnframed Two bytes code = IsUnframedTwo bytes code

-- The longest prefix that is the frames of a list ends before the bytes do, and this is wrong with
-- what follows.
pub record IsFirstUnframed (form : Form) (bytes : List ℕ) (offset : ℕ)
    (code : ByteCode) : Type 0 where
  pub within : offset < length bytes
  pub framed : IsFramed form (take offset bytes)
  pub longest : (n : ℕ) → n ≤ length bytes → IsFramed form (take n bytes) → n ≤ offset
  pub applies : IsUnframed form (drop offset bytes) code

-- The first fault of bytes, where `Behind` says the first one of what follows a head: one of the
-- head, at its number, or one after it.
abbrev pub FirstFault : (Form → List ℕ → ℕ → ByteCode → Type 0) → List ℕ → ℕ → ByteCode → Type 0
FirstFault Behind bytes offset code =
    ((offset ≡ 4) × (head_code (form_of bytes) bytes ≡ Some code))
    ⊎ ((at : ℕ) × (head_code (form_of bytes) bytes ≡ None)
    × (offset ≡ head_len (form_of bytes) + at)
    × Behind (form_of bytes) (drop (head_len (form_of bytes)) bytes) at code)

-- The first fault of bytes that aren't a list's: where it is, and its code.
abbrev pub IsFirstWireFault : List ℕ → ℕ → ByteCode → Type 0
IsFirstWireFault = FirstFault IsFirstUnframed

-- Bytes are those of at most one list, have at most one first fault, and never both; and the bytes
-- of a list, whatever form was asked for, are those of the list in the form that they are read in.
pub record HasOneReading (bytes : List ℕ) : Type 0 where
  pub list : (a b : List Atom) → AreAtoms a → AreAtoms b → IsBytesOf a bytes → IsBytesOf b bytes
      → a ≡ b
  pub fault : (i j : ℕ) (c d : ByteCode) → IsFirstWireFault bytes i c → IsFirstWireFault bytes j d
      → (i ≡ j) × (c ≡ d)
  pub either : (list : List Atom) (offset : ℕ) (code : ByteCode) → AreAtoms list
      → IsBytesOf list bytes → IsFirstWireFault bytes offset code → ⊥
  pub any : (form : Form) (list : List Atom) → AreAtoms list → bytes ≡ bytes_of form list
      → IsBytesOf list bytes

-- All bytes read in one way.
abbrev pub ReadsOneWay : Type 0
ReadsOneWay = (bytes : List ℕ) → HasOneReading bytes
