-- The greedy merge of two well-formed lists is their merge, and so for any number of lists.
use Rattle.std.proofs.Common.{◌≡◌, ◌⊎◌, inl, inr, ◌↔◌, List, [], ◌∷◌, ◌++◌, map, take, length, ◌≤◌, sym, refl, ap, ◌∙◌, subst}
use Rattle.context_model.specs.declared.TheConstants.{ATOM_MAX}
use Rattle.context_model.specs.Atoms.{Atom, AreAtoms}
use Rattle.context_model.specs.Kinds.{HasKind}
use Rattle.context_model.specs.Orders.{Path, atom_cmp, path_cmp, IsIn}
use Rattle.context_model.specs.Paths.{depth_after, path_after, paths_after, paths}
use Rattle.context_model.specs.WellFormed.{IsWellFormed}
use Rattle.context_model.specs.GreedyMerge.{greedy_merge}
use Rattle.context_model.specs.Merged.{HasPaths, SomeHasPath, IsMerged, merge_of, last_atom, PathsTellLists, HasOneMerge, HasLastAtoms, MergesGreedily, MergesFew, MergesOneByOne, MergesInGroups, MergesOfMerges, MergesMembers, KeepsElements, KeepsAtoms, StaysWithinLimit}
use Rattle.context_model.proofs.OrderLaws.{atoms_total, atoms_anti, paths_total, paths_anti}
use Rattle.context_model.proofs.GreedyElements.{All-at, All-from, IsIn-greedy, All-greedy, Rises-unique}
use Rattle.context_model.proofs.Following.{IsWellFormed-follows, IsWellFormed-from, IsWellFormed-empty}
use Rattle.context_model.proofs.MergePaths.{Goes, merges}

-- ---- the last atom of a path, and what is before it

-- x and a path without their last atom
abbrev front_or : Atom → Path → Path
front_or x [] = []
front_or x (y ∷ q) = x ∷ front_or y q

-- a path without its last atom
abbrev all_but_last : Path → Path
all_but_last [] = []
all_but_last (x ∷ q) = front_or x q

last_atom-end : (q : Path) (a : Atom) → last_atom (q ++ a ∷ []) ≡ a
last_atom-end [] a = refl
last_atom-end (x ∷ []) a = refl
last_atom-end (x ∷ y ∷ q) a = last_atom-end (y ∷ q) a

front_or-end : (x : Atom) (q : Path) (a : Atom) → front_or x (q ++ a ∷ []) ≡ x ∷ q
front_or-end x [] a = refl
front_or-end x (y ∷ q) a = ap (λ v. x ∷ v) (front_or-end y q a)

all_but_last-end : (q : Path) (a : Atom) → all_but_last (q ++ a ∷ []) ≡ q
all_but_last-end [] a = refl
all_but_last-end (x ∷ q) a = front_or-end x q a

-- two paths with one atom after each are equal only where both parts are
pub same_end : (q r : Path) (a b : Atom) → q ++ a ∷ [] ≡ r ++ b ∷ [] → (q ≡ r) × (a ≡ b)
same_end q r a b e =
    (sym (all_but_last-end q a) ∙ ap all_but_last e ∙ all_but_last-end r b, sym (last_atom-end q a) ∙ ap last_atom e ∙ last_atom-end r b)

last_after : (q : Path) (a : Atom) → last_atom (path_after q a) ≡ a
last_after q a = last_atom-end (take (depth_after q a) q) a

-- a list is the last atoms of its paths
last_atoms : (q : Path) (list : List Atom) → map last_atom (paths_after q list) ≡ list
last_atoms q [] = refl
last_atoms q (a ∷ list) = λ i. last_after q a i ∷ last_atoms (path_after q a) list i

-- the last atom of a path of a list is in the list
last_in : (q : Path) (list : List Atom) (p : Path) → IsIn p (paths_after q list) → IsIn (last_atom p) list
last_in q [] p none = elim none [ ]
last_in q (a ∷ list) p (inl e) = inl (ap last_atom e ∙ last_after q a)
last_in q (a ∷ list) p (inr i) = inr (last_in (path_after q a) list p i)

-- and each atom of a list is the last one of a path of it
path_with : (q : Path) (list : List Atom) (a : Atom) → IsIn a list → (p : Path) × IsIn p (paths_after q list) × (a ≡ last_atom p)
path_with q [] a none = elim none [ ]
path_with q (x ∷ list) a (inl e) = (path_after q x, inl refl, e ∙ sym (last_after q x))
path_with q (x ∷ list) a (inr i) = let s : (p : Path) × IsIn p (paths_after (path_after q x) list) × (a ≡ last_atom p) = path_with (path_after q x) list a i in (s.0, inr s.1, s.2)

-- ---- at most one list has given paths

pub paths_tell_lists : PathsTellLists
paths_tell_lists a b v w same = sym (last_atoms [] a) ∙ ap (map last_atom) (Rises-unique path_cmp paths_total (paths a) (paths b) v.order w.order same) ∙ last_atoms [] b

pub HasPaths-unique : (P : Path → Type 0) (a b : List Atom) → HasPaths a P → HasPaths b P → a ≡ b
HasPaths-unique P a b f g = paths_tell_lists a b f.well_formed g.well_formed (λ q. ((λ i. (g.exact q).1 ((f.exact q).0 i)), λ i. (f.exact q).1 ((g.exact q).0 i)))

-- a list with some paths has those of every predicate that says the same
pub HasPaths-alike : (P Q : Path → Type 0) (a : List Atom) → ((q : Path) → P q ↔ Q q) → HasPaths a P → HasPaths a Q
HasPaths-alike P Q a same f = record { well_formed = f.well_formed; exact = λ q. ((λ i. (same q).0 ((f.exact q).0 i)), λ i. (f.exact q).1 ((same q).1 i)) }

pub has_one_merge : HasOneMerge
has_one_merge lists = HasPaths-unique (SomeHasPath lists)

-- ---- the greedy merge of two well-formed lists

module _ (a b : List Atom) (v : IsWellFormed a) (w : IsWellFormed b) where
  goes : Goes [] (greedy_merge atom_cmp a b) (greedy_merge path_cmp (paths a) (paths b))
  goes = merges a b [] (IsWellFormed-follows a v) (IsWellFormed-follows b w)

  pub IsWellFormed-greedy : IsWellFormed (greedy_merge atom_cmp a b)
  IsWellFormed-greedy = IsWellFormed-from (greedy_merge atom_cmp a b) (All-greedy atom_cmp atoms_total atoms_anti HasKind a b v.kinds w.kinds) goes.follows

  -- its paths are those of both
  pub paths-greedy : (q : Path) → IsIn q (paths (greedy_merge atom_cmp a b)) ↔ (IsIn q (paths a) ⊎ IsIn q (paths b))
  paths-greedy q =
      subst (λ l. IsIn q l ↔ (IsIn q (paths a) ⊎ IsIn q (paths b))) (sym goes.are) (IsIn-greedy path_cmp paths_total paths_anti (paths a) (paths b) q)

-- where each list has its paths, the greedy merge has those of both
pub HasPaths-greedy : (P Q : Path → Type 0) (a b : List Atom) → HasPaths a P → HasPaths b Q → HasPaths (greedy_merge atom_cmp a b) (λ q. P q ⊎ Q q)
HasPaths-greedy P Q a b f g = record {
  well_formed = IsWellFormed-greedy a b f.well_formed g.well_formed;
  exact = λ q. ((λ i. there q ((paths-greedy a b f.well_formed g.well_formed q).0 i)), λ i. (paths-greedy a b f.well_formed g.well_formed q).1 (back q i));
}
  where
    there : (q : Path) → IsIn q (paths a) ⊎ IsIn q (paths b) → P q ⊎ Q q
    there q (inl i) = inl ((f.exact q).0 i)
    there q (inr i) = inr ((g.exact q).0 i)

    back : (q : Path) → P q ⊎ Q q → IsIn q (paths a) ⊎ IsIn q (paths b)
    back q (inl p) = inl ((f.exact q).1 p)
    back q (inr p) = inr ((g.exact q).1 p)

HasPaths-own : (a : List Atom) → IsWellFormed a → HasPaths a (λ q. IsIn q (paths a))
HasPaths-own a v = record { well_formed = v; exact = λ q. ((λ i. i), λ i. i) }

pub merges_greedily : MergesGreedily
merges_greedily a b v w =
    HasPaths-alike (λ q. IsIn q (paths a) ⊎ IsIn q (paths b)) (SomeHasPath (a ∷ b ∷ [])) (greedy_merge atom_cmp a b) (λ q. (there q, back q))
    (HasPaths-greedy (λ q. IsIn q (paths a)) (λ q. IsIn q (paths b)) a b (HasPaths-own a v) (HasPaths-own b w))
  where
    there : (q : Path) → IsIn q (paths a) ⊎ IsIn q (paths b) → SomeHasPath (a ∷ b ∷ []) q
    there q (inl i) = inl i
    there q (inr i) = inr (inl i)

    back : (q : Path) → SomeHasPath (a ∷ b ∷ []) q → IsIn q (paths a) ⊎ IsIn q (paths b)
    back q (inl i) = inl i
    back q (inr (inl i)) = inr i
    back q (inr (inr none)) = elim none [ ]

-- ---- merges of some lists and of others

pub SomeHasPath-append : (xs ys : List (List Atom)) (q : Path) → SomeHasPath (xs ++ ys) q ↔ (SomeHasPath xs q ⊎ SomeHasPath ys q)
SomeHasPath-append [] ys q = ((λ s. inr s), λ s. elim s [ inl none ↦ absurd none | inr s ↦ s ])
SomeHasPath-append (x ∷ xs) ys q = (there (SomeHasPath-append xs ys q), back (SomeHasPath-append xs ys q))
  where
    there : SomeHasPath (xs ++ ys) q ↔ (SomeHasPath xs q ⊎ SomeHasPath ys q) → SomeHasPath (x ∷ xs ++ ys) q → SomeHasPath (x ∷ xs) q ⊎ SomeHasPath ys q
    there rest (inl i) = inl (inl i)
    there rest (inr s) = elim (rest.0 s) [ inl t ↦ inl (inr t) | inr t ↦ inr t ]

    back : SomeHasPath (xs ++ ys) q ↔ (SomeHasPath xs q ⊎ SomeHasPath ys q) → SomeHasPath (x ∷ xs) q ⊎ SomeHasPath ys q → SomeHasPath (x ∷ xs ++ ys) q
    back rest (inl (inl i)) = inl i
    back rest (inl (inr s)) = inr (rest.1 (inl s))
    back rest (inr s) = inr (rest.1 (inr s))

pub merges_few : MergesFew
merges_few = record {
  none = record { well_formed = IsWellFormed-empty; exact = λ q. ((λ none. none), λ none. none) };
  one = λ a v. record { well_formed = v; exact = λ q. ((λ i. inl i), λ s. elim s [ inl i ↦ i | inr none ↦ absurd none ]) };
}

pub has_last_atoms : HasLastAtoms
has_last_atoms lists a ps f rises same =
    sym (last_atoms [] a)
    ∙ ap (map last_atom) (Rises-unique path_cmp paths_total (paths a) ps f.well_formed.order rises (λ q. ((λ i. (same q).1 ((f.exact q).0 i)), λ i. (f.exact q).1 ((same q).0 i))))

pub merges_in_groups : MergesInGroups
merges_in_groups some others a b f g =
    HasPaths-alike (λ q. SomeHasPath some q ⊎ SomeHasPath others q) (SomeHasPath (some ++ others)) (greedy_merge atom_cmp a b)
    (λ q. let s = SomeHasPath-append some others q in (s.1, s.0)) (HasPaths-greedy (SomeHasPath some) (SomeHasPath others) a b f g)

pub merges_one_by_one : MergesOneByOne
merges_one_by_one [] each = merges_few.none
merges_one_by_one (list ∷ lists) each = merges_in_groups (list ∷ []) lists list (merge_of lists) (merges_few.one list each.0) (merges_one_by_one lists each.1)

pub merges_of_merges : MergesOfMerges
merges_of_merges some others a b f = (
  HasPaths-alike (SomeHasPath (a ∷ others)) (SomeHasPath (some ++ others)) b (λ q. (there q, back q)),
  HasPaths-alike (SomeHasPath (some ++ others)) (SomeHasPath (a ∷ others)) b (λ q. (back q, there q)),
)
  where
    there : (q : Path) → SomeHasPath (a ∷ others) q → SomeHasPath (some ++ others) q
    there q (inl i) = (SomeHasPath-append some others q).1 (inl ((f.exact q).0 i))
    there q (inr s) = (SomeHasPath-append some others q).1 (inr s)

    back : (q : Path) → SomeHasPath (some ++ others) q → SomeHasPath (a ∷ others) q
    back q s = elim ((SomeHasPath-append some others q).0 s) [ inl t ↦ inl ((f.exact q).1 t) | inr t ↦ inr t ]

-- ---- by members

-- some list that has the path
pub SomeHasPath-list : (lists : List (List Atom)) (q : Path) → SomeHasPath lists q → (list : List Atom) × IsIn list lists × IsIn q (paths list)
SomeHasPath-list [] q none = elim none [ ]
SomeHasPath-list (x ∷ lists) q (inl i) = (x, inl refl, i)
SomeHasPath-list (x ∷ lists) q (inr s) = let t = SomeHasPath-list lists q s in (t.0, inr t.1, t.2)

pub SomeHasPath-of : (lists : List (List Atom)) (list : List Atom) (q : Path) → IsIn list lists → IsIn q (paths list) → SomeHasPath lists q
SomeHasPath-of [] list q none i = elim none [ ]
SomeHasPath-of (x ∷ lists) list q (inl e) i = inl (subst (λ l. IsIn q (paths l)) e i)
SomeHasPath-of (x ∷ lists) list q (inr m) i = inr (SomeHasPath-of lists list q m i)

more_members : (lists others : List (List Atom)) (q : Path) → ((list : List Atom) → IsIn list lists → IsIn list others) → SomeHasPath lists q → SomeHasPath others q
more_members lists others q f s = let t = SomeHasPath-list lists q s in SomeHasPath-of others t.0 q (f t.0 t.1) t.2

pub merges_members : MergesMembers
merges_members lists others a same f =
    HasPaths-alike (SomeHasPath lists) (SomeHasPath others) a (λ q. (more_members lists others q (λ list. (same list).0), more_members others lists q (λ list. (same list).1))) f

-- a path of a merge is one of a list, and back
pub merged_path : (lists : List (List Atom)) (a : List Atom) (q : Path) → IsMerged lists a → IsIn q (paths a) ↔ ((list : List Atom) × IsIn list lists × IsIn q (paths list))
merged_path lists a q f = ((λ i. SomeHasPath-list lists q ((f.exact q).0 i)), λ s. (f.exact q).1 (SomeHasPath-of lists s.0 q s.1 s.2))

pub keeps_atoms : KeepsAtoms
keeps_atoms lists a atom f = (there, back)
  where
    there : IsIn atom a → (list : List Atom) × IsIn list lists × IsIn atom list
    there i =
        let p : (p : Path) × IsIn p (paths a) × (atom ≡ last_atom p) = path_with [] a atom i in
        let s : (list : List Atom) × IsIn list lists × IsIn p.0 (paths list) = (merged_path lists a p.0 f).0 p.1 in
        (s.0, s.1, subst (λ x. IsIn x s.0) (sym p.2) (last_in [] s.0 p.0 s.2))

    back : (list : List Atom) × IsIn list lists × IsIn atom list → IsIn atom a
    back s =
        let p : (p : Path) × IsIn p (paths s.0) × (atom ≡ last_atom p) = path_with [] s.0 atom s.2 in
        subst (λ x. IsIn x a) (sym p.2) (last_in [] a p.0 ((merged_path lists a p.0 f).1 (s.0, s.1, p.1)))

-- an atom within the limit
abbrev IsWithinLimit : Atom → Type 0
IsWithinLimit atom = length atom ≤ ATOM_MAX

pub stays_within_limit : StaysWithinLimit
stays_within_limit lists a each f =
    All-from IsWithinLimit a (λ atom i. let s = (keeps_atoms lists a atom f).0 i in All-at IsWithinLimit s.0 atom (All-at AreAtoms lists s.0 each s.1) s.2)

-- ---- merges of any two lists

pub keeps_elements : KeepsElements
keeps_elements a b atom = IsIn-greedy atom_cmp atoms_total atoms_anti a b atom
