-- What is in the gap before a slot.
use Rattle.std.proofs.Common.{◌≡◌, ◌⊎◌, inl, inr, ◌↔◌, ℕ, zero, suc, ◌<◌, ◌≤◌, List, [], ◌∷◌, ◌++◌, length, slice_get, Some, Less, sym, refl, ap, ◌∙◌, subst, arith, append-nil}
use Rattle.std.proofs.lemmas.Bool.{cases_lt}
use Rattle.context_model.specs.Atoms.{Atom}
use Rattle.context_model.specs.Orders.{Path, path_cmp, IsIn}
use Rattle.context_model.specs.Paths.{path_at, paths}
use Rattle.context_model.specs.WellFormed.{IsWellFormed}
use Rattle.context_model.specs.Ended.{IsBelow, IsBeyond}
use Rattle.context_model.specs.Merged.{SomeHasPath}
use Rattle.context_model.proofs.OrderLaws.{paths_total}
use Rattle.context_model.proofs.Beyond.{IsBeyond-later}
use Rattle.context_model.proofs.MergedLaws.{SomeHasPath-append}
use Rattle.context_model.proofs.PlacesOf.{paths_rise}
use Rattle.bag_model.specs.Shapes.{Nodes}
use Rattle.bag_model.specs.Slots.{SlotAt, slots_of}
use Rattle.bag_model.proofs.SlotsBelow.{get_in}
use Rattle.bag_walks.specs.Searches.{IsFirstBeyond}
use Rattle.keep_calls.specs.declared.others.Others.{Others}
use Rattle.keep_calls.specs.Kept.{IsKeptPath, IsGap, gap_mark, IsToldOf, GoesTo}
use Rattle.keep_calls.specs.Walk.{slot_before, IsGapStart, IsGapPart, IsSomeTold, HoldUpTo}
use Rattle.keep_calls.proofs.PathLists.{paths_own}
use Rattle.keep_calls.proofs.PlainKept.{mark_alone}
use Rattle.keep_calls.proofs.SlotGaps.{own, front_before, never_before, alike, one_gap}
use Rattle.keep_calls.proofs.SlotOrder.{slots_rise}

-- ---- places and paths

pub in_place : {A : Type 0} (xs : List A) (x : A) → IsIn x xs → (i : ℕ) × (slice_get xs i ≡ Some x)
in_place [] x none = elim none [ ]
in_place (y ∷ xs) x (inl e) = (0, ap (λ v. Some v) (sym e))
in_place (y ∷ xs) x (inr i) = let s = in_place xs x i in (suc s.0, s.1)

-- From the first place beyond a path on all are beyond it.
pub beyond_on : (list : List Atom) (s : Path) (from k : ℕ) → IsWellFormed list → IsFirstBeyond list s from → from ≤ k → k < length list → IsBeyond s (path_at list k)
beyond_on list s from k w first l within = elim (cases_lt from k) [
  | inl before ↦ IsBeyond-later s (path_at list from) (path_at list k) (first.there (omega (arith, before, within))) (paths_rise list w from k before within)
  | inr after ↦ subst (λ n. IsBeyond s (path_at list n)) (let e : from ≡ k = omega (arith, l, after) in e) (first.there (omega (arith, l, within)))
]

-- A path doesn't come before one that it begins with.
pub not_before_front : (s r : Path) → path_cmp (s ++ r) s ≡ Less → ⊥
not_before_front s [] l = never_before s (subst (λ v. path_cmp v s ≡ Less) (append-nil s) l)
not_before_front s (a ∷ r) l = never_before s (paths_total.trans s (s ++ a ∷ r) s (front_before s a r) l)

-- ---- a gap

module _ (nodes : Nodes) (list : List Atom) (slot from to : ℕ) (g : IsGapPart nodes list slot from to) (k : ℕ) (l : from ≤ k) (m : k < to) where
  p : Path
  p = path_at list k

  within_list : k < length list
  within_list = omega (arith, m, g.within)

  -- What is there is beyond each slot before,
  after_earlier : (i n : ℕ) (other : SlotAt) → slot ≡ n → slice_get (slots_of nodes) i ≡ Some other → i < n → IsGapStart nodes list n from → IsBeyond (own other) (path_at list k)
  after_earlier i zero other same e less start = absurd (omega (arith, less))
  after_earlier i (suc n) other same e less start = elim (cases_lt i n) [
    | inl before ↦ (let rise = slots_rise nodes i n other start.0 g.table.well_formed e start.1 before in
        IsBeyond-later (own other) (own start.0) (path_at list k)
        (rise, λ under. never_before (own other) (subst (λ (s : SlotAt). path_cmp (own other) (own s) ≡ Less) (alike nodes g.table other start.0 (get_in (slots_of nodes) i other e) (get_in (slots_of nodes) n start.0 start.1) under) rise))
        (beyond_on list (own start.0) from k g.well_formed start.2 l within_list).0)
    | inr after ↦ (let is : Some start.0 ≡ Some other = sym start.1 ∙ ap (slice_get (slots_of nodes)) (let f : n ≡ i = omega (arith, less, after) in f) ∙ e in
        let one : start.0 ≡ other = cc is in
        subst (λ (s : SlotAt). IsBeyond (own s) (path_at list k)) one (beyond_on list (own start.0) from k g.well_formed start.2 l within_list))
  ]

  pub beyond_earlier : (i : ℕ) (other : SlotAt) → slice_get (slots_of nodes) i ≡ Some other → i < slot → IsBeyond (own other) (path_at list k)
  beyond_earlier i other e less = after_earlier i slot other refl e less g.starts

  some_there : (xs : List SlotAt) (i j : ℕ) (x : SlotAt) → slice_get xs j ≡ Some x → i ≤ j → (y : SlotAt) × (slice_get xs i ≡ Some y)
  some_there [] i j x e less = absurd (cc e)
  some_there (y ∷ xs) zero j x e less = (y, refl)
  some_there (y ∷ xs) (suc i) zero x e less = absurd (omega (arith, less))
  some_there (y ∷ xs) (suc i) (suc j) x e less = some_there xs i j x e (omega (arith, less))

  -- and before each later one.
  pub before_later : (i : ℕ) (other : SlotAt) → slice_get (slots_of nodes) i ≡ Some other → slot ≤ i → path_cmp (path_at list k) (own other) ≡ Less
  before_later i other e less =
      let at = some_there (slots_of nodes) slot i other e less in
      let first : path_cmp (path_at list k) (own at.0) ≡ Less = g.before at.0 k at.1 m in
      elim (cases_lt slot i) [
        | inl before ↦ paths_total.trans (path_at list k) (own at.0) (own other) first (slots_rise nodes slot i at.0 other g.table.well_formed at.1 e before)
        | inr after ↦ (let is : Some at.0 ≡ Some other = sym at.1 ∙ ap (slice_get (slots_of nodes)) (let f : slot ≡ i = omega (arith, less, after) in f) ∙ e in
            let one : at.0 ≡ other = cc is in
            subst (λ (s : SlotAt). path_cmp (path_at list k) (own s) ≡ Less) one first)
      ]

  pub gap_other : IsKeptPath nodes (path_at list k) → ⊥
  gap_other (other, j, (rest, e)) =
      let at = in_place (slots_of nodes) other j in
      elim (cases_lt at.0 slot) [
        | inl less ↦ (beyond_earlier at.0 other at.1 less).1 (rest, e)
        | inr more ↦ not_before_front (own other) rest (subst (λ v. path_cmp v (own other) ≡ Less) e (before_later at.0 other at.1 more))
      ]

  no_between : (n : ℕ) (at other : SlotAt) (i : ℕ) → slice_get (slots_of nodes) n ≡ Some at → slice_get (slots_of nodes) i ≡ Some other → slot ≡ suc n → path_cmp (own other) (path_at list k) ≡ Less
      → path_cmp (own at) (own other) ≡ Less → ⊥
  no_between n at other i e f same less more = elim (cases_lt i slot) [
    | inl before ↦ elim (cases_lt i n) [
      | inl earlier ↦ never_before (own at) (paths_total.trans (own at) (own other) (own at) more (slots_rise nodes i n other at g.table.well_formed f e earlier))
      | inr later ↦ (let is : Some at ≡ Some other = sym e ∙ ap (slice_get (slots_of nodes)) (let h : n ≡ i = omega (arith, same, before, later) in h) ∙ f in
          let one : at ≡ other = cc is in
          never_before (own at) (subst (λ (s : SlotAt). path_cmp (own at) (own s) ≡ Less) (sym one) more))
    ]
    | inr after ↦ never_before (own other) (paths_total.trans (own other) (path_at list k) (own other) less (before_later i other f after))
  ]

  gap_at : (n : ℕ) → slot ≡ n → IsGapStart nodes list n from → IsGap nodes (path_at list k) (slot_before (slots_of nodes) n)
  gap_at zero same start = λ other j less.
      let at = in_place (slots_of nodes) other j in
      never_before (own other) (paths_total.trans (own other) (path_at list k) (own other) less (before_later at.0 other at.1 (omega (arith, same))))
  gap_at (suc n) same start =
      subst (IsGap nodes (path_at list k)) (sym start.1) (
        get_in (slots_of nodes) n start.0 start.1,
        (beyond_on list (own start.0) from k g.well_formed start.2 l within_list).0,
        λ other j less more.
            let at = in_place (slots_of nodes) other j in
            no_between n start.0 other at.0 start.1 at.1 same less more,
      )

  -- Its gap is the one before the slot.
  pub gap_there : IsGap nodes (path_at list k) (slot_before (slots_of nodes) slot)
  gap_there = gap_at slot refl g.starts

-- ---- the pieces

module _ (nodes : Nodes) (others : Others) (list : List Atom) (slot from to : ℕ) (g : IsGapPart nodes list slot from to) (pieces : List (List Atom)) (h : HoldUpTo nodes others list from pieces) where
  -- What a path in the gap goes to is a part of the mark.
  goes_there : (k : ℕ) (q : Path) → from ≤ k → k < to → GoesTo nodes others (path_at list k) q → IsToldOf others nodes (path_at list k) × ((q ≡ [] → ⊥) × IsBelow q (gap_mark (slot_before (slots_of nodes) slot)))
  goes_there k q l m (t, inl s, some, below) = absurd (gap_other nodes list slot from to g k l m s.0)
  goes_there k q l m (t, inr s, some, below) = (
    s.1,
    (
      some,
      subst (IsBelow q) (s.2.2 ∙ ap gap_mark (one_gap nodes g.table (path_at list k) s.2.0 (slot_before (slots_of nodes) slot) s.2.1 (gap_there nodes list slot from to g k l m))) below,
    ),
  )

  -- Where no mark tells of it, the gap adds nothing.
  pub gap_untold : (IsSomeTold others nodes list from to → ⊥) → HoldUpTo nodes others list to pieces
  gap_untold none q = ((λ i. let s = (h q).0 i in (s.0, omega (arith, s.1, g.rises), s.2)), λ s. by s (cases_lt s.0 from))
    where
      by : (s : (place : ℕ) × (place < to) × GoesTo nodes others (path_at list place) q) → (s.0 < from) ⊎ (from ≤ s.0) → SomeHasPath pieces q
      by s (inl less) = (h q).1 (s.0, less, s.2)
      by s (inr more) = absurd (none (record { place = s.0; from_on = more; up_to = s.1; told = (goes_there s.0 q more s.1 s.2).0 }))

  -- Where one tells of it, the gap adds the mark.
  pub gap_told : IsSomeTold others nodes list from to → HoldUpTo nodes others list to (pieces ++ gap_mark (slot_before (slots_of nodes) slot) ∷ [])
  gap_told told q = ((λ i. there ((SomeHasPath-append pieces (mark ∷ []) q).0 i)), λ s. (SomeHasPath-append pieces (mark ∷ []) q).1 (back s (cases_lt s.0 from)))
    where
      mark : Path
      mark = gap_mark (slot_before (slots_of nodes) slot)

      gap : IsGap nodes (path_at list told.place) (slot_before (slots_of nodes) slot)
      gap = gap_there nodes list slot from to g told.place told.from_on told.up_to

      parts : IsIn q (paths mark) ↔ ((q ≡ [] → ⊥) × IsBelow q mark)
      parts = paths_own mark q (mark_alone nodes g.table (path_at list told.place) (slot_before (slots_of nodes) slot) gap).0

      there : SomeHasPath pieces q ⊎ SomeHasPath (mark ∷ []) q → (place : ℕ) × (place < to) × GoesTo nodes others (path_at list place) q
      there (inl i) = let s = (h q).0 i in (s.0, omega (arith, s.1, g.rises), s.2)
      there (inr (inl i)) =
          let b = parts.0 i in
          (told.place, told.up_to, (mark, inr (gap_other nodes list slot from to g told.place told.from_on told.up_to, told.told, (slot_before (slots_of nodes) slot, gap, refl)), b.0, b.1))
      there (inr (inr none)) = elim none [ ]

      back : (s : (place : ℕ) × (place < to) × GoesTo nodes others (path_at list place) q) → (s.0 < from) ⊎ (from ≤ s.0) → SomeHasPath pieces q ⊎ SomeHasPath (mark ∷ []) q
      back s (inl less) = inl ((h q).1 (s.0, less, s.2))
      back s (inr more) = inr (inl (parts.1 (goes_there s.0 q more s.1 s.2).1))
