-- Where the bytes of an atom are, what the form changes, and that form two has an end of its own.
use Rattle.std.specs.Prelude.{◌≡◌, ◌⊎◌, ◌<◌, ℕ, ◌+◌, ◌^◌, List, [], ◌++◌, length, take, drop, if◌then◌else◌}
use Rattle.context_model.specs.declared.TheConstants.{HEAD_LEN}
use Rattle.context_model.specs.declared.Form.{Form}
use Rattle.context_model.specs.declared.Form.TheVariants.{One, Two}
use Rattle.context_model.specs.Atoms.{Atom, AreAtoms}
use Rattle.context_model.specs.Framing.{frames, form_of, has_long, written_in, bytes_of, size_of, offset_of, IsBytesOf}

-- From the offset of an atom on the bytes of a list are the frames of that atom and of those after
-- it.
abbrev pub OffsetsStand : Type 0
OffsetsStand = (form : Form) (list : List Atom) (place : ℕ)
    → bytes_of form list
    ≡ take (offset_of form list place) (bytes_of form list)
    ++ frames (written_in form list) (drop place list)

-- Form two has the bytes of its head more. The exception is a list with an atom too long for form
-- one, which is written in form two in any case.
abbrev pub FormsDifferByHead : Type 0
FormsDifferByHead = (list : List Atom) → AreAtoms list
    → size_of Two list ≡ (if has_long list then 0 else HEAD_LEN) + size_of One list

-- Bytes of form two have an end of their own: a prefix of them that is the bytes of a list is
-- empty, or all of them.
abbrev pub FormTwoEnds : Type 0
FormTwoEnds = (front rest : List ℕ) (part whole : List Atom) → AreAtoms part → AreAtoms whole
    → IsBytesOf part front → IsBytesOf whole (front ++ rest) → form_of (front ++ rest) ≡ Two
    → length (front ++ rest) < 2 ^ 64
    → (front ≡ []) ⊎ (rest ≡ [])
