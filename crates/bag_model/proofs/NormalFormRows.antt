-- Normal forms and joins, computed: a scalar's data with a marker between them, and the joins of each variant.
use Rattle.std.proofs.Common.{◌≡◌, inl, inr, ℕ, zero, suc, ◌<◌, true, false, List, [], ◌∷◌, ◌++◌, length, Some, None, Less, Equal, Greater, refl, sym, ap, ◌∙◌, subst, arith}
use Rattle.context_model.specs.Atoms.{Atom}
use Rattle.context_model.specs.Orders.{Path, atom_cmp, IsIn}
use Rattle.context_model.specs.Paths.{paths, path_at}
use Rattle.context_model.specs.Varints.{unsigned_varint, unsigned_form, unsigned_tail}
use Rattle.context_model.proofs.MergedLaws.{same_end}
use Rattle.bag_model.specs.declared.Pick.TheVariants.{Least, Greatest}
use Rattle.bag_model.specs.declared.words.ScalarWord.TheVariants.{Uint64}
use Rattle.bag_model.specs.Scalars.{ScalarKind, ScalarValue, Unsigned}
use Rattle.bag_model.specs.Shapes.{Nodes, Scalar, no_node, node}
use Rattle.bag_model.specs.Values.{Taint, Scalar, Set, Counter, Map, no_entry, entry}
use Rattle.bag_model.specs.Joins.{join}
use Rattle.bag_model.specs.Slots.{slots_of}
use Rattle.bag_model.specs.Views.{All, Nothing}
use Rattle.bag_model.specs.Readings.{datum_path, PathsOf}
use Rattle.bag_model.specs.NormalForm.{Keeping, LeastDatum, SomeHoldsData, GivesWay, IsSuperseded, IsSupersededAt, IsNormalOf}
use Rattle.bag_model.proofs.Finite.{bytes_at-back}
use Rattle.bag_model.proofs.SlotsBelow.{get_in}
use Rattle.bag_model.proofs.DataPlaces.{slots_place}

abbrev number : ScalarKind
number = ScalarKind.One Uint64

abbrev the : ℕ → ScalarValue
the n = ScalarValue.One (Unsigned n)

-- ---- normal form

abbrev row_nodes : Nodes
row_nodes = node [] 0 (Scalar Least number) no_node

abbrev header : Atom
header = 248 ∷ 0 ∷ []

-- 3, a marker, and 9.
abbrev row_list : List Atom
row_list = header ∷ (0 ∷ 3 ∷ []) ∷ [] ∷ (0 ∷ 9 ∷ []) ∷ []

-- 9 gives way to 3, though a marker is between them.
abbrev row_normal : List Atom
row_normal = header ∷ (0 ∷ 3 ∷ []) ∷ [] ∷ []

goes_nine : IsSuperseded row_nodes All (PathsOf row_list) (path_at row_list 3)
unfolding unsigned_varint unsigned_form unsigned_tail
goes_nine = record {
  slot = 0;
  at = record { names = [] ∷ []; numbers = 0 ∷ []; shape = Scalar Least number };
  knows = tt;
  there = refl;
  place = header ∷ [];
  keep = LeastDatum;
  holds = (refl, refl);
  mine = 9 ∷ [];
  other = 3 ∷ [];
  is = refl;
  stands = inr (inl refl);
  way = refl;
}

-- the one place of the table
row_place : (s : Keeping) (p : Path) → SomeHoldsData row_nodes [] s p → (s ≡ LeastDatum) × (p ≡ header ∷ [])
unfolding unsigned_varint unsigned_form unsigned_tail
row_place s p (inl h) = h
row_place s p (inr none) = elim none [ ]

-- what gives way there gives way to 3
stays_three : (s : IsSuperseded row_nodes All (PathsOf row_list) (path_at row_list 1)) → ⊥
stays_three s =
    let here = row_place s.keep s.place (slots_place row_nodes [] s.at s.keep s.place (get_in (slots_of row_nodes) s.slot s.at s.there) s.holds) in
    let three : 0 ∷ 3 ∷ [] ≡ 0 ∷ s.mine = (same_end (header ∷ []) s.place (0 ∷ 3 ∷ []) (0 ∷ s.mine) s.is).1 in
    by s.other (bytes_at-back 0 (header ∷ []) (paths row_list) s.other (subst (λ q. PathsOf row_list (datum_path q s.other)) here.1 s.stands))
    (subst (λ k. GivesWay k (3 ∷ []) s.other) here.0 (subst (λ m. GivesWay s.keep m s.other) (mine s.mine three) s.way))
  where
    mine : (m : List ℕ) → 0 ∷ 3 ∷ [] ≡ 0 ∷ m → m ≡ 3 ∷ []
    mine m e = cc

    by : (other : List ℕ) → IsIn other ((3 ∷ []) ∷ (9 ∷ []) ∷ []) → atom_cmp other (3 ∷ []) ≡ Less → ⊥
    by other (inl e) l = let clash : Equal ≡ Less = ap (λ o. atom_cmp o (3 ∷ [])) (sym e) ∙ l in cc
    by other (inr (inl e)) l = let clash : Greater ≡ Less = ap (λ o. atom_cmp o (3 ∷ [])) (sym e) ∙ l in cc
    by other (inr (inr none)) l = elim none [ ]

-- there is no datum there
no_datum : (q : Path) (a : Atom) (p : Path) → IsSuperseded row_nodes All (PathsOf row_list) p → p ≡ q ++ a ∷ [] → ((m : List ℕ) → a ≡ 0 ∷ m → ⊥) → ⊥
no_datum q a p s e none = none s.mine (same_end q s.place a (0 ∷ s.mine) (sym e ∙ s.is)).1

pub row_marker_between : IsNormalOf row_nodes All row_list row_normal
row_marker_between = record { gone = 3 ∷ []; rises = tt; exact = λ place. (there place, λ s. back place s.0 s.1); left = refl }
  where
    there : (place : ℕ) → IsIn place (3 ∷ []) → IsSupersededAt row_nodes All row_list place
    there place (inl e) = subst (IsSupersededAt row_nodes All row_list) (sym e) (omega arith, goes_nine)
    there place (inr none) = elim none [ ]

    back : (place : ℕ) → place < length row_list → IsSuperseded row_nodes All (PathsOf row_list) (path_at row_list place) → IsIn place (3 ∷ [])
    back zero l s = absurd (no_datum [] header (path_at row_list 0) s refl (λ m e. cc e))
    back (suc zero) l s = absurd (stays_three s)
    back (suc (suc zero)) l s = absurd (no_datum (header ∷ (0 ∷ 3 ∷ []) ∷ []) [] (path_at row_list 2) s refl (λ m e. cc e))
    back (suc (suc (suc zero))) l s = inl refl
    back (suc (suc (suc (suc n)))) l s = absurd (omega (arith, l))

-- ---- joins

pub row_taints : join (Taint false) (Taint true) ≡ Taint true
row_taints = refl

pub row_scalars : join (Scalar Least (Some (the 9))) (Scalar Least (Some (the 7))) ≡ Scalar Least (Some (the 7))
row_scalars = refl

-- Where the greatest stays it is 9, and 7 gives way to it.
pub row_greatest : join (Scalar Greatest (Some (the 7))) (Scalar Greatest (Some (the 9))) ≡ Scalar Greatest (Some (the 9))
row_greatest = refl

pub row_absent : join (Scalar Least None) (Scalar Least (Some (the 7))) ≡ Scalar Least (Some (the 7))
row_absent = refl

pub row_sets : join (Set number (the 1 ∷ the 3 ∷ [])) (Set number (the 2 ∷ the 3 ∷ [])) ≡ Set number (the 1 ∷ the 2 ∷ the 3 ∷ [])
row_sets = refl

-- Two writers, one of both with 3 and 5.
pub row_counters : join (Counter ((97 ∷ [], 3) ∷ [])) (Counter ((97 ∷ [], 5) ∷ (98 ∷ [], 1) ∷ [])) ≡ Counter ((97 ∷ [], 5) ∷ (98 ∷ [], 1) ∷ [])
row_counters = refl

-- A key of both has the join of its values, and a key whose value is bottom stays.
pub row_maps : join (Map (entry (the 6) (Scalar Least None) no_entry)) (Map (entry (the 5) (Scalar Least None) (entry (the 6) (Scalar Least (Some (the 9))) no_entry)))
    ≡ Map (entry (the 5) (Scalar Least None) (entry (the 6) (Scalar Least (Some (the 9))) no_entry))
row_maps = refl

-- ---- views

-- A service that knows no slot takes nothing away.
pub row_unknown : IsNormalOf row_nodes Nothing row_list row_list
row_unknown = record { gone = []; rises = tt; exact = λ place. ((λ none. absurd none), λ s. (s.1).knows); left = refl }
