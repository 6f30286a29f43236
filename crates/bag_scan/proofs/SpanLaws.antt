-- The spans of a bag's slots, one field after another.
use Rattle.std.proofs.Common.{◌≡◌, ℕ, zero, suc, ◌+◌, List, [], ◌∷◌, ◌++◌, take, map, length, Ordering, Less, Equal, Greater, Some, None, ◌≤◌, sym, refl, ap, ◌∙◌, subst, append_assoc, arith}
use Rattle.std.specs.List.{slice_get}
use Rattle.std.proofs.lemmas.List.{append-nil, take_all}
use Rattle.std.specs.Ordering.{ordering_reverse}
use Rattle.context_model.specs.Atoms.{Atom}
use Rattle.context_model.specs.Kinds.{atom_of}
use Rattle.context_model.specs.Kinds.Kind.{Indexed}
use Rattle.context_model.specs.Ended.{IsBeyond}
use Rattle.context_model.specs.Orders.{Path, path_cmp}
use Rattle.context_model.specs.Paths.{path_at}
use Rattle.context_model.proofs.Beyond.{between_below}
use Rattle.context_model.proofs.OrderLaws.{paths_total}
use Rattle.context_model.proofs.PlacesOf.{path_there}
use Rattle.bag_model.specs.Readings.{PathsOf, node_path}
use Rattle.bag_model.specs.Shapes.{Shape, Nodes, Field, fields}
use Rattle.bag_model.specs.Slots.{SlotAt, slots_in, slots_of, within}
use Rattle.bag_model.proofs.SlotLaws.{slots_list, slots_of-list}
use Rattle.bag_walks.specs.Parts.{IsBehind, IsSegment}
use Rattle.bag_walks.specs.Searches.{IsFirstBeyond}
use Rattle.bag_walks.specs.Slots.{AddsEach, IsSpanOf}
use Rattle.bag_walks.proofs.Absent.{IsBare}
use Rattle.bag_walks.proofs.Bridge.{longer}
use Rattle.bag_walks.proofs.EachSlot.{adds-append, adds-within, adds-one}
use Rattle.bag_scan.specs.Spans.{IsSpanAt, AddsSpans, AddsAbsent}
use Rattle.bag_scan.specs.declared.spans.Span.{Span}

-- The slots of one field more.
slots_next : (fs : List Field) (i : ℕ) (f : Field) → slice_get fs i ≡ Some f → slots_list (take (suc i) fs) ≡ slots_list (take i fs) ++ map (within f.name f.number) (slots_in f.shape)
slots_next [] i f e = cc
slots_next (g ∷ fs) zero f e = let same : g ≡ f = cc in append-nil (map (within g.name g.number) (slots_in g.shape)) ∙ ap (λ (x : Field). map (within x.name x.number) (slots_in x.shape)) same
slots_next (g ∷ fs) (suc i) f e =
    ap (λ l. map (within g.name g.number) (slots_in g.shape) ++ l) (slots_next fs i f e)
    ∙ sym (append_assoc (map (within g.name g.number) (slots_in g.shape)) (slots_list (take i fs)) (map (within f.name f.number) (slots_in f.shape)))

-- What is found of the slots of a field follows what was found of those of the fields before it.
pub adds_field : {X : Type 0} (R : Path → Shape → X → Type 0) (fs : List Field) (i : ℕ) (f : Field) (q : Path) (xs ys zs : List X) → slice_get fs i ≡ Some f
    → AddsEach R (slots_list (take i fs)) q xs ys → AddsEach R (slots_in f.shape) (node_path q f.number) ys zs → AddsEach R (slots_list (take (i + 1) fs)) q xs zs
adds_field R fs i f q xs ys zs e before own =
    subst (λ slots. AddsEach R slots q xs zs) (sym (ap (λ n. slots_list (take n fs)) (let s : i + 1 ≡ suc i = omega arith in s) ∙ slots_next fs i f e))
    (adds-append R (slots_list (take i fs)) (map (within f.name f.number) (slots_in f.shape)) q xs ys zs before (adds-within R (slots_in f.shape) q f.name f.number ys zs own))

-- Where there is nothing at q or below it, the paths beyond q are those beyond each path below it.
pub beyond_bare : (list : List Atom) (q : Path) (h : Atom) (stop : ℕ) → IsBare (PathsOf list) q → IsFirstBeyond list q stop → IsFirstBeyond list (q ++ h ∷ []) stop
beyond_bare list q h stop bare first = record {
  within = first.within;
  before = λ k less beyond. first.before k less (
    paths_total.trans q (q ++ h ∷ []) (path_at list k) (longer q [] h) beyond.0,
    λ (rest, is). bare rest (subst (PathsOf list) is (path_there list k (omega (arith, first.within)))),
  );
  there = λ here. beyond (path_at list stop) (first.there here);
}
  where
    beyond : (p : Path) → IsBeyond q p → IsBeyond (q ++ h ∷ []) p
    beyond p b = (
      by (path_cmp p (q ++ h ∷ [])) refl,
      λ (rest, is). b.1 (h ∷ rest, is ∙ append_assoc q (h ∷ []) rest),
    )
      where
        not_greater : path_cmp q p ≡ Greater → ⊥
        not_greater e = let clash : Less ≡ Greater = sym b.0 ∙ e in cc

        by : (o : Ordering) → path_cmp p (q ++ h ∷ []) ≡ o → path_cmp (q ++ h ∷ []) p ≡ Less
        by Less e = absurd (b.1 (between_below q p (h ∷ []) not_greater (λ g. let clash : Less ≡ Greater = sym e ∙ g in cc)))
        by Equal e = absurd (b.1 (between_below q p (h ∷ []) not_greater (λ g. let clash : Equal ≡ Greater = sym e ∙ g in cc)))
        by Greater e = paths_total.antisymm (q ++ h ∷ []) p ∙ ap ordering_reverse e

bare_child : (P : Path → Type 0) (q : Path) (h : Atom) → IsBare P q → IsBare P (q ++ h ∷ [])
bare_child P q h bare rest p = bare (h ∷ rest) (subst P (append_assoc q (h ∷ []) rest) p)

-- One more field that isn't there.
pub absent_field : (fs : List Field) (i stop : ℕ) (f : Field) (xs ys zs : List Span) → slice_get fs i ≡ Some f
    → AddsAbsent (slots_list (take i fs)) stop xs ys → AddsAbsent (slots_in f.shape) stop ys zs → AddsAbsent (slots_list (take (i + 1) fs)) stop xs zs
absent_field fs i stop f xs ys zs e before own = λ list q none first.
    let h = atom_of (Indexed (length q) f.number) in
    adds_field (IsSpanAt list) fs i f q xs ys zs e (before list q none first) (own list (node_path q f.number) (bare_child (PathsOf list) q h none) (beyond_bare list q h stop none first))

-- All fields of a bag.
pub all_fields : (R : List SlotAt → Type 0) (nodes : Nodes) (i : ℕ) → length (fields nodes) ≤ i → R (slots_list (take i (fields nodes))) → R (slots_of nodes)
all_fields R nodes i all r = subst R (ap slots_list (take_all i (fields nodes) all) ∙ sym (slots_of-list nodes)) r

-- A slot that is a field of its own.
pub own_absent : (shape : Shape) (stop : ℕ) (xs : List Span) (span : Span) → slots_in shape ≡ record { names = []; numbers = []; shape = shape } ∷ [] → span.from ≡ None → span.stop ≡ stop
    → AddsAbsent (slots_in shape) stop xs (xs ++ span ∷ [])
own_absent shape stop xs span own from_is stop_is = λ list q none first.
    subst (λ slots. AddsSpans list slots q xs (xs ++ span ∷ [])) (sym own)
    (adds-one (IsSpanAt list) shape q xs span
    (subst (λ o. IsSpanOf list q o span.stop) (sym from_is) (subst (λ n. IsSpanOf list q None n) (sym stop_is)
    ((λ i. none [] (subst (PathsOf list) (sym (append-nil q)) i)), first))))

pub own_span : (list : List Atom) (q : Path) (shape : Shape) (from stop : ℕ) (xs : List Span) (span : Span) → slots_in shape ≡ record { names = []; numbers = []; shape = shape } ∷ []
    → span.from ≡ Some from → span.stop ≡ stop → IsBehind list q from → IsSegment list (length q) from stop → AddsSpans list (slots_in shape) q xs (xs ++ span ∷ [])
own_span list q shape from stop xs span own from_is stop_is behind segment =
    subst (λ slots. AddsSpans list slots q xs (xs ++ span ∷ [])) (sym own)
    (adds-one (IsSpanAt list) shape q xs span
    (subst (λ o. IsSpanOf list q o span.stop) (sym from_is) (subst (λ n. IsSpanOf list q (Some from) n) (sym stop_is) (behind, segment))))
