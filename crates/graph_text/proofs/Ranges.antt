-- The slots in some ranges.
use Rattle.std.proofs.Common.{◌≡◌, ◌⊎◌, ◌↔◌, inl, inr, ℕ, ◌+◌, ◌<◌, ◌≤◌, max, List, [], ◌∷◌, ◌++◌, length, get_or, take, Some, refl, sym, ◌∙◌, ap, subst, arith}
use Rattle.std.proofs.lemmas.List.{get_or-take, length-take, get_or_default, take_more, take_all}
use Rattle.std.proofs.lemmas.Bool.{cases_lt}
use Rattle.std.proofs.lemmas.List.Sorted.{IsPermutation-sym}
use Rattle.std.specs.List.Sorted.{IsNonDecreasingBy, IsPermutation}
use Rattle.context_model.specs.Orders.{IsIn}
use Rattle.bag_model.specs.Slots.{IsInRange}
use Rattle.bag_model.proofs.Finite.{in_append_first, in_append_second, in_append}
use Rattle.field_table.specs.Ranges.{slots_between}
use Rattle.field_table.proofs.SlotRanges.{in_between}
use Rattle.graph_text.specs.Additions.{InSome}
use Rattle.graph_text.proofs.Members.{in_permutation, contains_from_in}
use Rattle.bag_walks.proofs.Gathering.{in_push}

-- The slots are those of the ranges; all are below the greatest end, and none is missing between the greatest start and that.
pub record Covers (ranges : List (ℕ × ℕ)) (slots : List ℕ) (next : ℕ) : Type 0 where
  pub each : (slot : ℕ) → IsIn slot slots ↔ InSome ranges slot
  pub below : (slot : ℕ) → IsIn slot slots → slot < next
  pub whole : (slot : ℕ) → ((range : ℕ × ℕ) → IsIn range ranges → range.0 ≤ slot) → slot < next → IsIn slot slots

module _ (ranges : List (ℕ × ℕ)) (slots more : List ℕ) (next first end : ℕ) (covers : Covers ranges slots next)
    (order : (range : ℕ × ℕ) → IsIn range ranges → range.0 ≤ first)
    (pushed : (slot : ℕ) → IsIn slot more ↔ (IsIn slot slots ⊎ IsInRange (Some (max first next, end)) slot)) where
  -- A slot of the last range is known already, or is pushed.
  in_last : (slot : ℕ) → first ≤ slot → slot < end → IsIn slot more
  in_last slot low high = elim (cases_lt slot next) [
    | inl known ↦ (pushed slot).1 (inl (covers.whole slot (λ range among. let start = order range among in omega (arith, start)) known))
    | inr new ↦ (pushed slot).1 (inr (omega arith, high))
  ]

  to_some : (slot : ℕ) → IsIn slot more → InSome (ranges ++ (first, end) ∷ []) slot
  to_some slot i = elim ((pushed slot).0 i) [
    | inl old ↦ (let (range, among, within) = (covers.each slot).0 old in (range, (in_push ranges range (first, end)).1 (inl among), within))
    | inr new ↦ ((first, end), (in_push ranges (first, end) (first, end)).1 (inr refl), (let low = new.0 in omega (arith, low), new.1))
  ]

  from_some : (slot : ℕ) → InSome (ranges ++ (first, end) ∷ []) slot → IsIn slot more
  from_some slot (range, among, within) = elim ((in_push ranges range (first, end)).0 among) [
    | inl old ↦ (pushed slot).1 (inl ((covers.each slot).1 (range, old, within)))
    | inr same ↦ (let at : IsInRange (Some (first, end)) slot = subst (λ r. IsInRange (Some r) slot) same within in in_last slot at.0 at.1)
  ]

  below_all : (slot : ℕ) → IsIn slot more → slot < max next end
  below_all slot i = elim ((pushed slot).0 i) [
    | inl old ↦ (let h = covers.below slot old in omega (arith, h))
    | inr new ↦ (let h = new.1 in omega (arith, h))
  ]

  whole_all : (slot : ℕ) → ((range : ℕ × ℕ) → IsIn range (ranges ++ (first, end) ∷ []) → range.0 ≤ slot) → slot < max next end → IsIn slot more
  whole_all slot starts high =
      let start = starts (first, end) ((in_push ranges (first, end) (first, end)).1 (inr refl)) in
      elim (cases_lt slot next) [
        | inl known ↦ (pushed slot).1 (inl (covers.whole slot (λ range among. starts range ((in_push ranges range (first, end)).1 (inl among))) known))
        | inr new ↦ in_last slot start (omega arith)
      ]

  -- One range more, whose start is no lower than those of the others.
  pub covers_more : Covers (ranges ++ (first, end) ∷ []) more (max next end)
  covers_more = record { each = λ slot. (to_some slot, from_some slot); below = below_all; whole = whole_all }

-- In sorted ranges the starts of a prefix are no higher than the next.
pub starts_before : (ranges : List (ℕ × ℕ)) (i : ℕ) (d : ℕ × ℕ) → IsNonDecreasingBy (λ range. range.0) ranges → i < length ranges
    → (range : ℕ × ℕ) → IsIn range (take i ranges) → range.0 ≤ (get_or ranges i d).0
starts_before ranges i d sorted h range among =
    let (k, within, at) = contains_from_in (take i ranges) range among in
    let short : length (take i ranges) ≤ i = omega (arith, length-take i ranges) in
    let here : get_or ranges k range ≡ range = sym (get_or-take i ranges k range (omega arith)) ∙ at in
    let rises : (get_or ranges k range).0 ≤ (get_or ranges i range).0 = sorted k i range (omega arith) h in
    omega (arith, rises, ap (λ (r : ℕ × ℕ). r.0) here, ap (λ (r : ℕ × ℕ). r.0) (get_or_default ranges i range d h))

-- The slots of a range more.
pub pushed_range : (slots more : List ℕ) (low end : ℕ) → more ≡ slots ++ slots_between low end → (slot : ℕ) → IsIn slot more ↔ (IsIn slot slots ⊎ IsInRange (Some (low, end)) slot)
pushed_range slots more low end is slot = (to, back)
  where
    to : IsIn slot more → IsIn slot slots ⊎ IsInRange (Some (low, end)) slot
    to i = elim (in_append slot slots (slots_between low end) (subst (IsIn slot) is i)) [ inl old ↦ inl old | inr new ↦ inr ((in_between low end slot).0 new) ]

    back : IsIn slot slots ⊎ IsInRange (Some (low, end)) slot → IsIn slot more
    back (inl old) = subst (IsIn slot) (sym is) (in_append_first slot slots (slots_between low end) old)
    back (inr new) = subst (IsIn slot) (sym is) (in_append_second slot slots (slots_between low end) ((in_between low end slot).1 new))

-- A step of the loop over sorted ranges.
pub covers_step : (ranges : List (ℕ × ℕ)) (i : ℕ) (d : ℕ × ℕ) (slots more : List ℕ) (next low top : ℕ) → IsNonDecreasingBy (λ range. range.0) ranges → i < length ranges
    → Covers (take i ranges) slots next → low ≡ max (get_or ranges i d).0 next
    → ((slot : ℕ) → IsIn slot more ↔ (IsIn slot slots ⊎ IsInRange (Some (low, (get_or ranges i d).1)) slot))
    → top ≡ max next (get_or ranges i d).1 → Covers (take (i + 1) ranges) more top
covers_step ranges i d slots more next low top sorted h covers from pushed to =
    let range = get_or ranges i d in
    let all = covers_more (take i ranges) slots more next range.0 range.1 covers (starts_before ranges i d sorted h)
    (subst (λ l. (slot : ℕ) → IsIn slot more ↔ (IsIn slot slots ⊎ IsInRange (Some (l, range.1)) slot)) from pushed) in
    subst (λ rs. Covers rs more top) (sym (take_more ranges i d h)) (subst (Covers (take i ranges ++ range ∷ []) more) (sym to) all)

-- The end of the loop.
pub covers_all : (ranges : List (ℕ × ℕ)) (i : ℕ) (slots : List ℕ) (next : ℕ) → length ranges ≤ i → Covers (take i ranges) slots next
    → (slot : ℕ) → IsIn slot slots ↔ InSome ranges slot
covers_all ranges i slots next h covers slot = subst (λ rs. IsIn slot slots ↔ InSome rs slot) (take_all i ranges h) (covers.each slot)

-- Ranges in another order.
some_moved : (xs ys : List (ℕ × ℕ)) → IsPermutation xs ys → (slot : ℕ) → InSome xs slot → InSome ys slot
some_moved xs ys p slot (range, among, within) = (range, (in_permutation xs ys p range).0 among, within)

pub some_permutation : (xs ys : List (ℕ × ℕ)) → IsPermutation xs ys → (slots : List ℕ) → ((slot : ℕ) → IsIn slot slots ↔ InSome ys slot)
    → (slot : ℕ) → IsIn slot slots ↔ InSome xs slot
some_permutation xs ys p slots each slot =
    (λ i. some_moved ys xs (IsPermutation-sym xs ys p) slot ((each slot).0 i), λ some. (each slot).1 (some_moved xs ys p slot some))
