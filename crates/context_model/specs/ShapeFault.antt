-- The first fault of a list that isn't well formed.
use Rattle.std.specs.Prelude.{◌≡◌, ◌≢◌, ℕ, ◌<◌, true, List, [], take, slice_get, Some}
use Rattle.std.specs.declared.cmp.Ordering.TheVariants.{Less}
use Rattle.context_model.specs.Atoms.{Atom}
use Rattle.context_model.specs.ByteCodes.{ByteCode}
use Rattle.context_model.specs.ByteCodes.ByteCode.{BadPrefix, BadIndex, LevelJump, OutOfOrder}
use Rattle.context_model.specs.Kinds.{HasKind, HasBadPrefix, HasBadIndex}
use Rattle.context_model.specs.Orders.{Path, path_cmp}
use Rattle.context_model.specs.Paths.{is_header, level, header_count, path_after, last_path_after}
use Rattle.context_model.specs.WellFormed.{IsWellFormed}

-- The atom is a header whose level is more than one above that of the last header in the path q
-- before it.
abbrev pub JumpsLevel : Path → Atom → Type 0
JumpsLevel q atom = (is_header atom ≡ true) × (header_count q < level atom)

-- What is wrong with an atom that follows one with the path q: the first of these that applies.
abbrev pub IsWrong : ByteCode → Path → Atom → Type 0
IsWrong BadPrefix q atom = HasBadPrefix atom
IsWrong BadIndex q atom = HasBadIndex atom
IsWrong LevelJump q atom = HasKind atom × JumpsLevel q atom
IsWrong OutOfOrder q atom =
    HasKind atom × (JumpsLevel q atom → ⊥) × (path_cmp q (path_after q atom) ≢ Less)
IsWrong _ q atom = ⊥

-- The atoms before the place are well formed, and this is wrong with the atom there.
pub record IsFirstShapeFault (list : List Atom) (place : ℕ) (code : ByteCode) : Type 0 where
  pub atom : Atom
  pub there : slice_get list place ≡ Some atom
  pub before : IsWellFormed (take place list)
  pub wrong : IsWrong code (last_path_after [] (take place list)) atom

-- A list has at most one first fault, and none where it is well formed.
pub record HasOneShape (list : List Atom) : Type 0 where
  pub fault : (i j : ℕ) (c d : ByteCode) → IsFirstShapeFault list i c → IsFirstShapeFault list j d
      → (i ≡ j) × (c ≡ d)
  pub either : (i : ℕ) (c : ByteCode) → IsWellFormed list → IsFirstShapeFault list i c → ⊥

-- A list that is well formed has no first fault, and any other at most one.
abbrev pub FaultsOnce : Type 0
FaultsOnce = (list : List Atom) → HasOneShape list
