-- Atoms that are in one buffer, where each follows its length.
use Rattle.std.specs.Prelude.{◌≡◌, ℕ, ◌+◌, ◌-◌, ◌<◌, ◌≤◌, List, [], ◌∷◌, ◌++◌, map, length, take, drop, slice_index, slice_range, ◌⊎◌}
use Rattle.std.specs.List.{AllByRecursion}
use Rattle.context_model.specs.declared.TheConstants.{ATOM_MAX}
use Rattle.context_model.specs.Atoms.{Atom, AreAtoms}
use Rattle.context_model.specs.declared.Form.TheVariants.{One}
use Rattle.context_model.specs.Framing.{frame, frames}
use Rattle.context_model.specs.WireFault.{length_front, length_said}
use Rattle.context_model.specs.WithoutData.{without}
use Rattle.atom_list.specs.declared.builder.TheConstants.{BUFFER_MAX}

-- The first atom in bytes that begin with its length.
unfoldable pub first_atom : List ℕ → Atom
first_atom bytes =
    let code = length_front bytes in
    slice_range bytes (length code) (length code + length_said code)

-- The atom whose frame begins at a place of a buffer, and a marker where the buffer ends before it.
abbrev pub atom_framed_at : List ℕ → ℕ → Atom
atom_framed_at bytes start = first_atom (drop start bytes)

-- The atoms whose frames begin at these places.
abbrev pub atoms_at : List ℕ → List ℕ → List Atom
atoms_at bytes starts = map (atom_framed_at bytes) starts

-- The bytes begin with the frame of an atom.
abbrev pub BeginsFrame : List ℕ → Type 0
BeginsFrame bytes =
    (atom : Atom) × (rest : List ℕ) × (length atom ≤ ATOM_MAX) × (bytes ≡ frame One atom ++ rest)

-- A frame begins at this place of the buffer, or the buffer ends before it.
abbrev pub IsStart : List ℕ → ℕ → Type 0
IsStart bytes start = (length bytes ≤ start) ⊎ BeginsFrame (drop start bytes)

-- Each is such a place of the buffer.
abbrev pub AreStarts : List ℕ → List ℕ → Type 0
AreStarts bytes starts = AllByRecursion (IsStart bytes) starts

-- Where the frames of atoms begin that follow one another from this place on.
abbrev pub starts_from : ℕ → List Atom → List ℕ
starts_from at [] = []
starts_from at (atom ∷ list) = at ∷ starts_from (at + length (frame One atom)) list

-- The buffer begins with the frames of these atoms, one after the other.
pub record BeginsWithFrames (bytes : List ℕ) (starts : List ℕ) (front : List Atom) : Type 0 where
  pub there : starts ≡ starts_from 0 front
  pub framed : take (length (frames One front)) bytes ≡ frames One front

-- The starts are places of the buffer, which begins with the frames of the first `laid` atoms.
pub record IsFlat (bytes : List ℕ) (starts : List ℕ) (laid : ℕ) : Type 0 where
  pub fit : AreStarts bytes starts
  pub few : length bytes ≤ BUFFER_MAX
  pub within : laid ≤ length starts
  pub front : BeginsWithFrames bytes (take laid starts) (take laid (atoms_at bytes starts))
  -- all frames together, also where some begin at one place, are no more than a buffer may have
  pub light : length (frames One (atoms_at bytes starts)) ≤ BUFFER_MAX

-- The bytes are the frames of the list one after another, and the starts are theirs in a buffer
-- where the first begins at this place.
pub record IsPieceOf (bytes : List ℕ) (at : ℕ) (starts : List ℕ) (list : List Atom) : Type 0 where
  pub short : AreAtoms list
  pub framed : bytes ≡ frames One list
  pub there : starts ≡ starts_from at list

-- The first `count` starts are those of frames that follow one another in the buffer. The last of
-- them ends at this place.
pub record IsFrameRow (bytes : List ℕ) (starts : List ℕ) (count end : ℕ) : Type 0 where
  pub piece : IsPieceOf (slice_range bytes (slice_index starts 0) end) (slice_index starts 0)
      (take count starts) (take count (atoms_at bytes starts))
  pub order : slice_index starts 0 ≤ end
  pub within : 0 < count → end ≤ length bytes

-- The start moved from one buffer to another, by where the frames begin in each.
abbrev pub moved : ℕ → ℕ → ℕ → ℕ
moved from to start = start - from + to

-- The moved start is one of a buffer of fewer than 2 ^ 32 bytes.
pub record IsMovable (from to : ℕ) (start : ℕ) : Type 0 where
  pub behind : from ≤ start
  pub within : start - from + to ≤ BUFFER_MAX

-- Each moved start is one of a buffer of fewer than 2 ^ 32 bytes.
abbrev pub AreMovable : ℕ → ℕ → List ℕ → Type 0
AreMovable from to starts = AllByRecursion (IsMovable from to) starts

-- In any buffer, the atoms of the new starts are those of the old ones without some.
abbrev pub LeavesOut : List ℕ → List ℕ → List ℕ → Type 0
LeavesOut gone old new =
    (bytes : List ℕ) → atoms_at bytes new ≡ without gone (atoms_at bytes old)

-- The starts before the first place that goes are as they were.
abbrev pub KeepsFront : List ℕ → List ℕ → List ℕ → Type 0
KeepsFront gone old new = take (slice_index gone 0) new ≡ take (slice_index gone 0) old

-- The bytes are the frames of the list from a place on, as many as there are starts.
abbrev pub IsPieceFrom : List Atom → ℕ → List ℕ → ℕ → List ℕ → Type 0
IsPieceFrom list from bytes at starts =
    IsPieceOf bytes at starts (slice_range list from (from + length starts))
