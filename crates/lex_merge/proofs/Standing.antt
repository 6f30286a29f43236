-- Contexts merged by pairs.
use Rattle.std.proofs.Common.{◌≡◌, ◌≤◌, ◌↔◌, inl, inr, List, [], ◌∷◌, ◌++◌, length, length-append, refl, sym, ◌∙◌, ap, subst, arith}
use Rattle.context_model.specs.Atoms.{Atom}
use Rattle.context_model.specs.Orders.{Path, atom_cmp, IsIn}
use Rattle.context_model.specs.Paths.{paths}
use Rattle.context_model.specs.WellFormed.{IsWellFormed}
use Rattle.context_model.specs.GreedyMerge.{greedy_merge}
use Rattle.context_model.specs.Merged.{SomeHasPath, IsMerged, merge_of}
use Rattle.context_model.proofs.OrderLaws.{atoms_total}
use Rattle.context_model.proofs.GreedyLaws.{greedy-assoc}
use Rattle.context_model.proofs.Rising.{greedy-right_empty}
use Rattle.context_model.proofs.MergedLaws.{SomeHasPath-append, HasPaths-alike, merges_few}
use Rattle.lex_merge.specs.Many.{StandFor}

-- ---- merged one after another

-- The merge of one list.
pub merge_of-one : (a : List Atom) → merge_of (a ∷ []) ≡ a
merge_of-one a = greedy-right_empty atom_cmp a

-- Some lists may be merged by themselves, and then with the others.
merges_front : (some rest : List (List Atom)) → greedy_merge atom_cmp (merge_of some) (merge_of rest) ≡ merge_of (some ++ rest)
merges_front [] rest = refl
merges_front (a ∷ some) rest = greedy-assoc atom_cmp atoms_total a (merge_of some) (merge_of rest) ∙ ap (greedy_merge atom_cmp a) (merges_front some rest)

merges_part : (done some rest : List (List Atom)) → merge_of ((done ++ merge_of some ∷ []) ++ rest) ≡ merge_of (done ++ (some ++ rest))
merges_part [] some rest = merges_front some rest
merges_part (x ∷ done) some rest = ap (greedy_merge atom_cmp x) (merges_part done some rest)

-- ---- the same paths

part_has : (done some rest : List (List Atom)) (a : List Atom) (q : Path) → (IsIn q (paths a) ↔ SomeHasPath some q) → SomeHasPath ((done ++ a ∷ []) ++ rest) q ↔ SomeHasPath (done ++ (some ++ rest)) q
part_has [] some rest a q same = (there, back)
  where
    there : SomeHasPath (a ∷ rest) q → SomeHasPath (some ++ rest) q
    there (inl i) = (SomeHasPath-append some rest q).1 (inl (same.0 i))
    there (inr s) = (SomeHasPath-append some rest q).1 (inr s)

    back : SomeHasPath (some ++ rest) q → SomeHasPath (a ∷ rest) q
    back s = elim ((SomeHasPath-append some rest q).0 s) [ inl t ↦ inl (same.1 t) | inr t ↦ inr t ]
part_has (x ∷ done) some rest a q same = (there (part_has done some rest a q same), back (part_has done some rest a q same))
  where
    there : SomeHasPath ((done ++ a ∷ []) ++ rest) q ↔ SomeHasPath (done ++ (some ++ rest)) q → SomeHasPath ((x ∷ done ++ a ∷ []) ++ rest) q → SomeHasPath (x ∷ done ++ (some ++ rest)) q
    there behind (inl i) = inl i
    there behind (inr s) = inr (behind.0 s)

    back : SomeHasPath ((done ++ a ∷ []) ++ rest) q ↔ SomeHasPath (done ++ (some ++ rest)) q → SomeHasPath (x ∷ done ++ (some ++ rest)) q → SomeHasPath ((x ∷ done ++ a ∷ []) ++ rest) q
    back behind (inl i) = inl i
    back behind (inr s) = inr (behind.1 s)

-- ---- standing for others

pub stand_same : (lists others : List (List Atom)) → lists ≡ others → StandFor lists others
stand_same lists others e = record { merged = λ a m. subst (λ l. IsMerged l a) e m; one_by_one = ap merge_of e }

pub stand_stand : (few fewer lists : List (List Atom)) → StandFor few fewer → StandFor fewer lists → StandFor few lists
stand_stand few fewer lists f g = record { merged = λ a m. g.merged a (f.merged a m); one_by_one = f.one_by_one ∙ g.one_by_one }

-- The merge of some lists stands for them among others.
pub stand_part : (done some rest : List (List Atom)) (a : List Atom) → IsMerged some a → a ≡ merge_of some → StandFor ((done ++ a ∷ []) ++ rest) (done ++ (some ++ rest))
stand_part done some rest a f e = record {
  merged = λ b m. HasPaths-alike (SomeHasPath ((done ++ a ∷ []) ++ rest)) (SomeHasPath (done ++ (some ++ rest))) b (λ q. part_has done some rest a q (f.exact q)) m;
  one_by_one = ap (λ list. merge_of ((done ++ list ∷ []) ++ rest)) e ∙ merges_part done some rest;
}

-- A list that stands for others is their merge.
pub one_stands : (lists : List (List Atom)) (a : List Atom) → IsWellFormed a → StandFor (a ∷ []) lists → IsMerged lists a × (a ≡ merge_of lists)
one_stands lists a well stand = (stand.merged a (merges_few.one a well), sym (merge_of-one a) ∙ stand.one_by_one)

pub only_one : (lists rest : List (List Atom)) (list : List Atom) → lists ≡ rest ++ list ∷ [] → length lists ≤ 1 → lists ≡ list ∷ []
only_one lists [] list e few = e
only_one lists (x ∷ rest) list e few = let count = ap length e in let parts = length-append rest (list ∷ []) in absurd (omega arith)
