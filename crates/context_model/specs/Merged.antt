-- Merges: the one well-formed list that has exactly the paths of some lists.
use Rattle.std.specs.Prelude.{◌≡◌, ◌⊎◌, ◌↔◌, List, [], ◌∷◌, ◌++◌, map}
use Rattle.std.specs.List.{AllByRecursion}
use Rattle.context_model.specs.Atoms.{Atom, AreAtoms}
use Rattle.context_model.specs.Orders.{Path, atom_cmp, path_cmp, IsIn, Rises}
use Rattle.context_model.specs.GreedyMerge.{greedy_merge}
use Rattle.context_model.specs.Paths.{paths}
use Rattle.context_model.specs.WellFormed.{IsWellFormed}

-- The list is well formed and has exactly these paths.
pub record HasPaths (list : List Atom) (P : Path → Type 0) : Type 0 where
  pub well_formed : IsWellFormed list
  pub exact : (q : Path) → IsIn q (paths list) ↔ P q

-- Some list has the path.
abbrev pub SomeHasPath : List (List Atom) → Path → Type 0
SomeHasPath [] q = ⊥
SomeHasPath (list ∷ lists) q = IsIn q (paths list) ⊎ SomeHasPath lists q

-- The merge of some lists: the well-formed list whose paths are exactly those of all of them.
abbrev pub IsMerged : List (List Atom) → List Atom → Type 0
IsMerged lists list = HasPaths list (SomeHasPath lists)

-- The lists merged one after another: a plain program that computes the merge of well-formed lists.
abbrev pub merge_of : List (List Atom) → List Atom
merge_of [] = []
merge_of (list ∷ lists) = greedy_merge atom_cmp list (merge_of lists)

-- The last atom of a path after the atom a.
abbrev last_from : Atom → Path → Atom
last_from a [] = a
last_from a (b ∷ q) = last_from b q

-- The last atom of a path. The path of an atom ends with it, and so is never empty.
abbrev pub last_atom : Path → Atom
last_atom q = last_from [] q

-- ---- which list a merge is

-- Two well-formed lists with the same paths are equal.
abbrev pub PathsTellLists : Type 0
PathsTellLists =
    (a b : List Atom) → IsWellFormed a → IsWellFormed b
    → ((q : Path) → IsIn q (paths a) ↔ IsIn q (paths b)) → a ≡ b

-- Lists have at most one merge.
abbrev pub HasOneMerge : Type 0
HasOneMerge =
    (lists : List (List Atom)) (a b : List Atom) → IsMerged lists a → IsMerged lists b → a ≡ b

-- A merge is the list of the last atoms of all paths of the lists, in the order of paths.
abbrev pub HasLastAtoms : Type 0
HasLastAtoms =
    (lists : List (List Atom)) (a : List Atom) (ps : List Path) → IsMerged lists a
    → Rises path_cmp ps → ((q : Path) → IsIn q ps ↔ SomeHasPath lists q) → a ≡ map last_atom ps

-- The greedy merge of two well-formed lists is their merge.
abbrev pub MergesGreedily : Type 0
MergesGreedily =
    (a b : List Atom) → IsWellFormed a → IsWellFormed b
    → IsMerged (a ∷ b ∷ []) (greedy_merge atom_cmp a b)

-- The merge of no list is the empty list, and that of one well-formed list is that list.
pub record MergesFew : Type 0 where
  pub none : IsMerged [] []
  pub one : (a : List Atom) → IsWellFormed a → IsMerged (a ∷ []) a

-- Well-formed lists have a merge: they can be merged one after another.
abbrev pub MergesOneByOne : Type 0
MergesOneByOne =
    (lists : List (List Atom)) → AllByRecursion IsWellFormed lists → IsMerged lists (merge_of lists)

-- The greedy merge of a merge of some lists and a merge of others is the merge of all of them.
abbrev pub MergesInGroups : Type 0
MergesInGroups =
    (some others : List (List Atom)) (a b : List Atom) → IsMerged some a → IsMerged others b
    → IsMerged (some ++ others) (greedy_merge atom_cmp a b)

-- The merge of some lists can stand for them among others.
abbrev pub MergesOfMerges : Type 0
MergesOfMerges =
    (some others : List (List Atom)) (a b : List Atom) → IsMerged some a
    → (IsMerged (a ∷ others) b ↔ IsMerged (some ++ others) b)

-- Lists with the same members have the same merge, in whatever order and however often each is
-- there.
abbrev pub MergesMembers : Type 0
MergesMembers =
    (lists others : List (List Atom)) (a : List Atom)
    → ((list : List Atom) → IsIn list lists ↔ IsIn list others) → IsMerged lists a
    → IsMerged others a

-- ---- the atoms of a merge

-- An atom is in the greedy merge of any two lists exactly where it is in one of them.
abbrev pub KeepsElements : Type 0
KeepsElements =
    (a b : List Atom) (atom : Atom)
    → IsIn atom (greedy_merge atom_cmp a b) ↔ (IsIn atom a ⊎ IsIn atom b)

-- An atom is in a merge exactly where it is in one of the lists.
abbrev pub KeepsAtoms : Type 0
KeepsAtoms =
    (lists : List (List Atom)) (a : List Atom) (atom : Atom) → IsMerged lists a
    → IsIn atom a ↔ ((list : List Atom) × IsIn list lists × IsIn atom list)

-- A merge of lists whose atoms are within the limit is such a list.
abbrev pub StaysWithinLimit : Type 0
StaysWithinLimit =
    (lists : List (List Atom)) (a : List Atom) → AllByRecursion AreAtoms lists → IsMerged lists a
    → AreAtoms a
