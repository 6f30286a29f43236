-- The steps of the walk, by what its functions know.
use Rattle.std.proofs.Common.{◌≡◌, ◌↔◌, ℕ, zero, suc, ◌+◌, ◌-◌, ◌<◌, ◌≤◌, List, [], ◌∷◌, ◌++◌, length, slice_get, get_or, Option, Some, None, sym, refl, ap, ◌∙◌, subst, arith, add-one}
use Rattle.std.proofs.lemmas.Option.{get_or_from_slice_get}
use Rattle.std.specs.Prelude.{slice_range}
use Rattle.std.specs.List.{AllByRecursion}
use Rattle.std.specs.Option.{option_map}
use Rattle.context_model.specs.Atoms.{Atom}
use Rattle.context_model.specs.WellFormed.{IsWellFormed}
use Rattle.context_model.specs.Ended.{field_path}
use Rattle.bag_model.specs.Shapes.{Nodes}
use Rattle.bag_model.specs.Slots.{SlotAt, slots_of}
use Rattle.bag_model.specs.Tables.{IsTable}
use Rattle.bag_model.proofs.SlotsBelow.{get_in}
use Rattle.bag_walks.specs.Slots.{IsSpanOf}
use Rattle.bag_walks.proofs.EachSlot.{each-count, each-at}
use Rattle.bag_scan.specs.Spans.{IsSpanAt, AreSpans}
use Rattle.bag_scan.specs.declared.spans.Span.{Span}
use Rattle.keep_calls.specs.declared.others.Others.{Others}
use Rattle.keep_calls.specs.declared.others.Others.TheVariants.{Cut}
use Rattle.keep_calls.specs.Walk.{IsSmall, IsGapStart, IsGapPart, IsSomeTold, HoldUpTo, IsLevelShared, IsHeaderToSlot, LeadOn}
use Rattle.keep_calls.proofs.SlotGaps.{own, slots_small}
use Rattle.keep_calls.proofs.SlotParts.{part_well_formed, part_added}
use Rattle.keep_calls.proofs.Steps.{next_start, gap_present, gap_absent, behind_some, told_cut}

pub a_slot : (slots : List SlotAt) (i : ℕ) → i < length slots → (at : SlotAt) × (slice_get slots i ≡ Some at)
a_slot [] i l = absurd (omega (arith, l))
a_slot (at ∷ slots) zero l = (at, refl)
a_slot (other ∷ slots) (suc i) l = a_slot slots i (omega (arith, l))

-- ---- numbers that were asked for

-- The numbers are those of the slot at a place.
abbrev AreNumbers : List SlotAt → ℕ → List ℕ → Type 0
AreNumbers slots slot numbers = Some numbers ≡ option_map (λ (found : SlotAt). found.numbers) (slice_get slots slot)

pub numbers_at : (slots : List SlotAt) (slot : ℕ) (numbers : List ℕ) → slot < length slots → AreNumbers slots slot numbers → (at : SlotAt) × (slice_get slots slot ≡ Some at) × (numbers ≡ at.numbers)
numbers_at slots slot numbers l e =
    let s = a_slot slots slot l in
    let same : Some numbers ≡ Some s.0.numbers = e ∙ ap (option_map (λ (found : SlotAt). found.numbers)) s.1 in
    (s.0, s.1, cc same)

pub numbers_small : (nodes : Nodes) (slot : ℕ) (numbers : List ℕ) → IsTable nodes → slot < length (slots_of nodes) → AreNumbers (slots_of nodes) slot numbers → AllByRecursion IsSmall numbers
numbers_small nodes slot numbers table l e =
    let s = numbers_at (slots_of nodes) slot numbers l e in
    subst (AllByRecursion IsSmall) (sym s.2) (slots_small nodes s.0 table.well_formed (get_in (slots_of nodes) slot s.0 s.1))

pub level_upto : (slots : List SlotAt) (slot count : ℕ) (numbers : List ℕ) → slot < length slots → AreNumbers slots slot numbers → IsLevelShared slots slot count → count ≤ length numbers
level_upto slots zero count numbers l e shared = omega (arith, shared)
level_upto slots (suc slot) count numbers l e shared =
    let b = numbers_at slots (suc slot) numbers l e in
    let a = a_slot slots slot (omega (arith, l)) in
    subst (λ v. count ≤ length v) (sym b.2) (shared a.0 b.0 a.1 b.1).second

-- Some atom before the slot doesn't lead to it exactly where they cease to be its headers.
pub told_lead : (nodes : Nodes) (list : List Atom) (slot from to count end : ℕ) (numbers : List ℕ) → IsGapPart nodes list slot from to → slot < length (slots_of nodes) → AreNumbers (slots_of nodes) slot numbers
    → IsLevelShared (slots_of nodes) slot count → from ≤ end → end ≤ to → LeadOn list numbers count from end → (end < to → IsHeaderToSlot list numbers (count + (end - from)) end → ⊥)
    → (end < to) ↔ IsSomeTold Cut nodes list from to
told_lead nodes list slot from to count end numbers g l e shared low high lead stops =
    let b = numbers_at (slots_of nodes) slot numbers l e in
    told_cut nodes list slot from to g b.0 b.1 count end shared low high (subst (λ v. LeadOn list v count from end) b.2 lead)
    (λ less header. stops less (subst (λ v. IsHeaderToSlot list v (count + (end - from)) end) (sym b.2) header))

-- ---- a slot

module _ (nodes : Nodes) (table : IsTable nodes) (list : List Atom) (w : IsWellFormed list) (slot : ℕ) (less : slot < length (slots_of nodes)) (from : ℕ) (start : IsGapStart nodes list slot from)
    (o : Option ℕ) (stop : ℕ) (span : (at : SlotAt) → slice_get (slots_of nodes) slot ≡ Some at → IsSpanOf list (field_path at.numbers) o stop) where
  at : SlotAt
  at = (a_slot (slots_of nodes) slot less).0

  there : slice_get (slots_of nodes) slot ≡ Some (a_slot (slots_of nodes) slot less).0
  there = (a_slot (slots_of nodes) slot less).1

  found : IsSpanOf list (own (a_slot (slots_of nodes) slot less).0) o stop
  found = span (a_slot (slots_of nodes) slot less).0 there

  pub none_gap : o ≡ None → IsGapPart nodes list slot from stop
  none_gap is = gap_absent nodes table list w slot from (a_slot (slots_of nodes) slot less).0 there start stop (subst (λ v. IsSpanOf list (own (a_slot (slots_of nodes) slot less).0) v stop) is found)

  -- Where the part ends, the next gap begins.
  pub next_gap : IsGapStart nodes list (slot + 1) stop
  next_gap = subst (λ n. IsGapStart nodes list n stop) (sym (add-one slot)) (next_start nodes table list w slot (a_slot (slots_of nodes) slot less).0 o stop there found)

  module _ (behind : ℕ) (is : o ≡ Some behind) where
    here : IsSpanOf list (own (a_slot (slots_of nodes) slot less).0) (Some behind) stop
    here = subst (λ v. IsSpanOf list (own (a_slot (slots_of nodes) slot less).0) v stop) is found

    pub some_behind : 1 ≤ behind
    some_behind = behind_some nodes table list w slot from (a_slot (slots_of nodes) slot less).0 there start behind here.0

    next : behind ≡ behind - 1 + 1
    next = omega (arith, some_behind)

    pub some_gap : IsGapPart nodes list slot from (behind - 1)
    some_gap = gap_present nodes table list w slot from (a_slot (slots_of nodes) slot less).0 there start behind (behind - 1) stop next here

    pub some_order : behind ≤ stop
    some_order = here.1.part.rises

    pub some_within : stop ≤ length list
    some_within = here.1.part.within

    -- The list that was made is the part of the slot.
    abbrev IsMade : List Atom → Type 0
    IsMade made = (other : SlotAt) → slice_get (slots_of nodes) slot ≡ Some other → made ≡ field_path other.numbers ++ slice_range list behind stop

    pub part_formed : (made : List Atom) → IsMade made → IsWellFormed made
    part_formed made f =
        subst IsWellFormed (sym (f (a_slot (slots_of nodes) slot less).0 there))
        (part_well_formed nodes table list (a_slot (slots_of nodes) slot less).0 (get_in (slots_of nodes) slot (a_slot (slots_of nodes) slot less).0 there) behind stop here.0 here.1)

    pub part_held : (others : Others) (pieces : List (List Atom)) (made : List Atom) → IsMade made → HoldUpTo nodes others list (behind - 1) pieces → HoldUpTo nodes others list stop (pieces ++ made ∷ [])
    part_held others pieces made f h =
        subst (λ v. HoldUpTo nodes others list stop (pieces ++ v ∷ [])) (sym (f (a_slot (slots_of nodes) slot less).0 there))
        (part_added nodes table list (a_slot (slots_of nodes) slot less).0 (get_in (slots_of nodes) slot (a_slot (slots_of nodes) slot less).0 there) behind stop here.0 here.1 (behind - 1) next others pieces h)

-- ---- the spans of all slots

pub spans_count : (list : List Atom) (slots : List SlotAt) (spans : List Span) → AreSpans list slots [] spans → length spans ≡ length slots
spans_count list slots spans h = each-count (IsSpanAt list) slots [] spans h

pub span_there : (list context : List Atom) (slots : List SlotAt) (spans items : List Span) (slot : ℕ) (other : Span) → list ≡ context → spans ≡ items → AreSpans context slots [] items
    → (at : SlotAt) → slice_get slots slot ≡ Some at → IsSpanOf list (field_path at.numbers) (get_or spans slot other).from (get_or spans slot other).stop
span_there list context slots spans items slot other e f h at there =
    let all : AreSpans list slots [] spans = subst (λ v. AreSpans v slots [] spans) (sym e) (subst (AreSpans context slots []) (sym f) h) in
    let s = each-at (IsSpanAt list) slots [] spans slot at all there in
    let same : get_or spans slot other ≡ s.0 = get_or_from_slice_get spans slot s.0 other s.1 in
    subst (λ (x : Span). IsSpanOf list (field_path at.numbers) x.from x.stop) (sym same) s.2
