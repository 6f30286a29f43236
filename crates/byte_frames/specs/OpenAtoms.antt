-- The atoms that are open after the atoms so far.
use Rattle.std.specs.Prelude.{◌≡◌, ◌⊎◌, ℕ, ◌<◌, ◌≤◌, List, [], ◌∷◌, length, slice_get, Option, Some, None, Result, Ok, Err}
use Rattle.std.specs.Option.{option_copied}
use Rattle.std.specs.Borrow.{Bor}
use Rattle.std.specs.declared.cmp.Ordering.TheVariants.{Less}
use Rattle.context_model.specs.declared.TheConstants.{LEVELS_MAX}
use Rattle.context_model.specs.Atoms.{Atom}
use Rattle.context_model.specs.Orders.{Path, atom_cmp}
use Rattle.context_model.specs.Paths.{header_count, path_after}
use Rattle.context_model.specs.ShapeFault.{IsWrong}
use Rattle.atom_list.specs.declared.contexts.ShapeFault.{ShapeFault}
use Rattle.atom_list.specs.Contexts.{shape_fault_code_of}
use Rattle.atom_list.specs.OpenPlaces.{MayStandBehind}
use Rattle.byte_frames.specs.declared.open_atoms.OpenHeaders.{OpenHeaders}

-- The headers that are open after an atom, by their levels, and the last datum after the last of
-- them.
pub record OpenAtoms : Type 0 where
  pub headers : List (Bor (List ℕ))
  pub count : ℕ
  pub datum : Option (Bor (List ℕ))

-- The atoms that are open where these headers are, and this datum.
abbrev pub opened_by : OpenHeaders → Option (Bor (List ℕ)) → OpenAtoms
opened_by opened datum = record { headers = opened.headers; count = opened.count; datum = datum }

-- After the first `count` atoms of a path comes this datum; or the path ends there, or a marker is
-- there.
abbrev pub EndsWithDatum : Path → ℕ → Option Atom → Type 0
EndsWithDatum q count (Some datum) =
    (payload : List ℕ) × (datum ≡ 0 ∷ payload) × (slice_get q count ≡ Some datum)
EndsWithDatum q count None = (length q ≡ count) ⊎ (slice_get q count ≡ Some [])

-- The open atoms are the headers of a path by their levels, and the datum after them.
pub record IsOpenFor (q : Path) (opened : OpenAtoms) : Type 0 where
  pub number : opened.count ≡ header_count q
  pub few : opened.count ≤ LEVELS_MAX
  pub stand : (k : ℕ) → k < opened.count
      → option_copied (slice_get opened.headers k) ≡ slice_get q k
  pub behind : EndsWithDatum q opened.count (option_copied opened.datum)

-- The atom may follow one with the path q, and these are open after it; or this is wrong with it
-- there.
abbrev pub Admits : Path → Atom → OpenAtoms → Result (Unit {0}) ShapeFault → Type 0
Admits q atom opened (Ok _) = MayStandBehind q atom × IsOpenFor (path_after q atom) opened
Admits q atom opened (Err fault) = IsWrong (shape_fault_code_of fault) q atom

-- The atom is greater than the earlier one, where there is one.
abbrev pub RisesToAtom : Option (Bor (List ℕ)) → Atom → Type 0
RisesToAtom earlier atom =
    (place : Atom) → option_copied earlier ≡ Some place → atom_cmp place atom ≡ Less
