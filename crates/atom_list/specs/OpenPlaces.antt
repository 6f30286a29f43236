-- The headers that are open after the atoms before a place.
use Rattle.std.specs.Prelude.{◌≡◌, ◌⊎◌, ℕ, ◌-◌, ◌<◌, ◌≤◌, true, List, [], ◌∷◌, length, map, drop, replicate, slice_get, slice_index, Option, Some, None}
use Rattle.std.specs.declared.cmp.Ordering.TheVariants.{Less}
use Rattle.context_model.specs.declared.TheConstants.{LEVELS_MAX}
use Rattle.context_model.specs.Atoms.{Atom}
use Rattle.context_model.specs.ByteCodes.{ByteCode}
use Rattle.context_model.specs.Kinds.{HasKind}
use Rattle.context_model.specs.ShapeFault.{IsWrong}
use Rattle.context_model.specs.Orders.{Path, atom_cmp, path_cmp}
use Rattle.context_model.specs.Paths.{is_header, level, header_count, path_after}
pub use Rattle.context_model.specs.Paths.{atom_at, path_before}

-- The atoms at these places.
abbrev pub atoms_at_places : List Atom → List ℕ → List Atom
atoms_at_places list places = map (atom_at list) places

-- Each of these is a place of the list.
abbrev pub ArePlaces : List ℕ → List Atom → Type 0
ArePlaces places list = (k : ℕ) → k < length places → slice_index places k < length list

-- The atom is a header of this level.
pub record IsHeaderOf (a : Atom) (n : ℕ) : Type 0 where
  pub kind : HasKind a
  pub header : is_header a ≡ true
  pub level : level a ≡ n
  pub few : n < LEVELS_MAX

-- The places of the levels from this one on are 0.
abbrev pub AreClosed : ℕ → List ℕ → Type 0
AreClosed count above = drop count above ≡ replicate (LEVELS_MAX - count) 0

-- The atom may follow one with the path q.
pub record MayStandBehind (q : Path) (a : Atom) : Type 0 where
  pub kind : HasKind a
  pub level : is_header a ≡ true → level a ≤ header_count q
  pub later : path_cmp q (path_after q a) ≡ Less

-- The atom is at the first place in the list, and at the second in the path.
abbrev pub StandsAt : List Atom → ℕ → Path → ℕ → Atom → Type 0
StandsAt list place q depth a = (slice_get list place ≡ Some a) × (slice_get q depth ≡ Some a)

-- After the headers of a path comes this datum, or nothing, or a marker.
abbrev pub EndsWith : List Atom → Path → ℕ → Option ℕ → Type 0
EndsWith list q count (Some place) = (payload : List ℕ) × StandsAt list place q count (0 ∷ payload)
EndsWith list q count None = (length q ≡ count) ⊎ (slice_get q count ≡ Some [])

-- The numbers are the places of a path's headers by their levels, and of the datum after them.
pub record IsOpenPath (list : List Atom) (q : Path) (headers : List ℕ)
    (datum : Option ℕ) : Type 0 where
  pub number : length headers ≡ header_count q
  pub few : length headers ≤ LEVELS_MAX
  pub stand : (k : ℕ) → k < length headers
      → (a : Atom) × StandsAt list (slice_index headers k) q k a
  pub behind : EndsWith list q (length headers) datum

-- The numbers are the places of the headers that are open before a place of the list, and of the
-- datum after them.
abbrev pub IsOpenAt : List Atom → ℕ → List ℕ → Option ℕ → Type 0
IsOpenAt list at headers datum = IsOpenPath list (path_before list at) headers datum

-- The atom at a place is allowed there.
abbrev pub MayStand : List Atom → ℕ → Type 0
MayStand list at = MayStandBehind (path_before list at) (atom_at list at)

-- The code says what is wrong with the atom at a place.
abbrev pub IsWrongAt : ByteCode → List Atom → ℕ → Type 0
IsWrongAt code list at = IsWrong code (path_before list at) (atom_at list at)

-- The atom is greater than the one at the earlier place, where there is such a place.
abbrev pub RisesTo : List Atom → Option ℕ → Atom → Type 0
RisesTo list earlier atom =
    (place : ℕ) → earlier ≡ Some place → atom_cmp (atom_at list place) atom ≡ Less
