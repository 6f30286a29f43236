-- Well-formed lists of atoms.
use Rattle.std.specs.Prelude.{ℕ, ◌+◌, ◌≤◌, List, [], ◌∷◌, map, filter}
use Rattle.std.specs.List.{AllByRecursion}
use Rattle.context_model.specs.declared.Form.{Form}
use Rattle.context_model.specs.Atoms.{Atom}
use Rattle.context_model.specs.Kinds.{HasKind}
use Rattle.context_model.specs.Orders.{path_cmp, Rises}
use Rattle.context_model.specs.Paths.{is_header, level, paths}
use Rattle.context_model.specs.Trimmed.{trimmed}

-- The first is at most the bound, and each of the others at most one more than the one before.
abbrev pub RiseByOneAtMost : ℕ → List ℕ → Type 0
RiseByOneAtMost bound [] = Unit {0}
RiseByOneAtMost bound (n ∷ ns) = (n ≤ bound) × RiseByOneAtMost (n + 1) ns

-- Each atom has a kind, the levels of the headers rise by one at most, from level 0, and the paths
-- strictly rise.
pub record IsWellFormed (list : List Atom) : Type 0 where
  pub kinds : AllByRecursion HasKind list
  pub levels : RiseByOneAtMost 0 (map level (filter is_header list))
  pub order : Rises path_cmp (paths list)

-- A trimmed well-formed list is well formed.
abbrev pub TrimsWellFormed : Type 0
TrimsWellFormed =
    (form : Form) (list : List Atom) (budget : ℕ) → IsWellFormed list
    → IsWellFormed (trimmed form list budget)
