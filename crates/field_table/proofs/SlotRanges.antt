-- Slots in ranges.
use Rattle.std.proofs.Common.{◌≡◌, ◌⊎◌, ◌↔◌, inl, inr, ℕ, ◌+◌, ◌-◌, ◌<◌, ◌≤◌, zero, suc, true, false, eqb, List, [], ◌∷◌, ◌++◌, length, get_or, take, drop, take-suc, drop-cons, Some, All, refl, sym, ap, ◌∙◌, append_assoc, subst, arith}
use Rattle.std.specs.List.{range_with_len, slice_get}
use Rattle.std.specs.List.Sorted.{IsNonDecreasingBy, IsPartitionPoint}
use Rattle.std.specs.Ordering.{nat_cmp}
use Rattle.std.specs.declared.cmp.Ordering.TheVariants.{Less}
use Rattle.std.proofs.Math.Dec.{leb}
use Rattle.std.proofs.lemmas.Bool.{eqb-true, eq-eqb, leb-false, leb-true, cases_lt}
use Rattle.std.proofs.lemmas.Bool.Decides.{nat_tests}
use Rattle.std.proofs.lemmas.List.{append-nil, length-append}
use Rattle.std.proofs.lemmas.List.FromFn.{length-range_with_len}
use Rattle.std.proofs.lemmas.List.Elements.{All-head, All-tail, All-push}
use Rattle.context_model.specs.Orders.{IsIn, Rises}
use Rattle.bag_model.proofs.Finite.{in_append_first, in_append_second, in_append}
use Rattle.field_table.specs.Ranges.{slots_between, slots_in_ranges, AreSlotRanges}

-- ---- the slots of one range

from_with_len : (first n slot : ℕ) → IsIn slot (range_with_len first n) → (first ≤ slot) × (slot < first + n)
from_with_len first zero slot none = absurd none
from_with_len first (suc n) slot (inl same) = (omega (arith, same), omega (arith, same))
from_with_len first (suc n) slot (inr later) = let r = from_with_len (first + 1) n slot later in (omega (arith, r.0), omega (arith, r.1))

to_with_len : (first n slot : ℕ) → first ≤ slot → slot < first + n → IsIn slot (range_with_len first n)
to_with_len first zero slot low high = absurd (omega arith)
to_with_len first (suc n) slot low high = elim (cases_lt first slot) [
  | inl later ↦ inr (to_with_len (first + 1) n slot (omega arith) (omega arith))
  | inr here ↦ inl (omega arith)
]

pub in_between : (first end slot : ℕ) → IsIn slot (slots_between first end) ↔ ((first ≤ slot) × (slot < end))
in_between first end slot = (
  λ i. let r = from_with_len first (end - first) slot i in (r.0, omega (arith, r.0, r.1)),
  λ r. to_with_len first (end - first) slot r.0 (omega (arith, r.0, r.1)),
)

-- ---- numbers that rise

less_is : (m n : ℕ) → m < n → nat_cmp m n ≡ Less
less_is m n h = grind (arith, nat_tests, h)

is_less : (m n : ℕ) → nat_cmp m n ≡ Less → m < n
is_less m n h = grind (arith, nat_tests, h)

rises_with_len : (first n : ℕ) → Rises nat_cmp (range_with_len first n)
rises_with_len first zero = tt
rises_with_len first (suc zero) = tt
rises_with_len first (suc (suc n)) = (less_is first (first + 1) (omega arith), rises_with_len (first + 1) (suc n))

tail_rises : (x : ℕ) (xs : List ℕ) → Rises nat_cmp (x ∷ xs) → Rises nat_cmp xs
tail_rises x [] h = tt
tail_rises x (y ∷ ys) h = h.1

behind_rises : (xs ys : List ℕ) → Rises nat_cmp (xs ++ ys) → Rises nat_cmp ys
behind_rises [] ys rises = rises
behind_rises (x ∷ xs) ys rises = behind_rises xs ys (tail_rises x (xs ++ ys) rises)

least_first : (x : ℕ) (xs : List ℕ) (y : ℕ) → Rises nat_cmp (x ∷ xs) → IsIn y xs → x < y
least_first x [] y rises none = absurd none
least_first x (z ∷ zs) y rises (inl same) = omega (arith, is_less x z rises.0, same)
least_first x (z ∷ zs) y rises (inr later) = omega (arith, is_less x z rises.0, least_first z zs y rises.1 later)

-- A number of the prefix is less than one after it.
front_less : (xs ys : List ℕ) (x y : ℕ) → Rises nat_cmp (xs ++ ys) → IsIn x xs → IsIn y ys → x < y
front_less [] ys x y rises none behind = absurd none
front_less (z ∷ zs) ys x y rises (inl same) behind = omega (arith, same, least_first z (zs ++ ys) y rises (in_append_second y zs ys behind))
front_less (z ∷ zs) ys x y rises (inr later) behind = front_less zs ys x y (tail_rises z (zs ++ ys) rises) later behind

rises_range : (xs : List ℕ) (first n : ℕ) → Rises nat_cmp xs → All (λ held. held < first) xs → Rises nat_cmp (xs ++ range_with_len first n)
rises_range [] first n rises below = rises_with_len first n
rises_range (x ∷ []) first zero rises below = tt
rises_range (x ∷ []) first (suc n) rises below = (less_is x first (All-head (λ held. held < first) x [] below), rises_with_len first (suc n))
rises_range (x ∷ z ∷ zs) first n rises below = (rises.0, rises_range (z ∷ zs) first n rises.1 (All-tail (λ held. held < first) x (z ∷ zs) below))

-- ---- the slots of ranges, one after the other

pub slots_push : (ranges : List (ℕ × ℕ)) (first end : ℕ) → slots_in_ranges (ranges ++ (first, end) ∷ []) ≡ slots_in_ranges ranges ++ slots_between first end
slots_push [] first end = append-nil (slots_between first end)
slots_push (range ∷ ranges) first end = ap (λ slots. slots_between range.0 range.1 ++ slots) (slots_push ranges first end) ∙ sym (append_assoc (slots_between range.0 range.1) (slots_in_ranges ranges) (slots_between first end))

-- A range more.
pub ranges_push : (ranges : List (ℕ × ℕ)) (first end : ℕ) → AreSlotRanges ranges → first < end → All (λ held. held < first) (slots_in_ranges ranges) → AreSlotRanges (ranges ++ (first, end) ∷ [])
ranges_push ranges first end are some below = record {
  rises = subst (Rises nat_cmp) (sym (slots_push ranges first end)) (rises_range (slots_in_ranges ranges) first (end - first) are.rises below);
  filled = All-push (λ range. range.0 < range.1) ranges (first, end) are.filled some;
}

-- There is no slot exactly where there is no range.
pub no_slots : (ranges : List (ℕ × ℕ)) (count : ℕ) → AreSlotRanges ranges → count ≡ length ranges → (eqb count 0 ≡ true) ↔ (slots_in_ranges ranges ≡ [])
no_slots [] count are is = (λ yes. refl, λ none. eq-eqb count 0 is)
no_slots (range ∷ ranges) count are is = (
  λ yes. absurd (let none : count ≡ 0 = eqb-true count 0 yes in omega arith),
  λ none. absurd (subst (IsIn range.0) none (in_append_first range.0 (slots_between range.0 range.1) (slots_in_ranges ranges)
      ((in_between range.0 range.1 range.0).1 (omega arith, All-head (λ range. range.0 < range.1) range ranges are.filled)))),
)

-- ---- the range that a slot is in

pub in_ranges : (ranges : List (ℕ × ℕ)) (i : ℕ) (d : ℕ × ℕ) (slot : ℕ) → i < length ranges → (get_or ranges i d).0 ≤ slot → slot < (get_or ranges i d).1 → IsIn slot (slots_in_ranges ranges)
in_ranges [] i d slot within low high = absurd (omega arith)
in_ranges (range ∷ ranges) zero d slot within low high = in_append_first slot (slots_between range.0 range.1) (slots_in_ranges ranges) ((in_between range.0 range.1 slot).1 (low, high))
in_ranges (range ∷ ranges) (suc i) d slot within low high = in_append_second slot (slots_between range.0 range.1) (slots_in_ranges ranges) (in_ranges ranges i d slot (omega arith) low high)

-- A slot is in one of the ranges.
stands_in : (ranges : List (ℕ × ℕ)) (slot : ℕ) → IsIn slot (slots_in_ranges ranges) → (i : ℕ) × (i < length ranges) × ((d : ℕ × ℕ) → ((get_or ranges i d).0 ≤ slot) × (slot < (get_or ranges i d).1))
stands_in [] slot none = absurd none
stands_in (range ∷ ranges) slot i = elim (in_append slot (slots_between range.0 range.1) (slots_in_ranges ranges) i) [
  | inl here ↦ (0, omega arith, λ d. (in_between range.0 range.1 slot).0 here)
  | inr later ↦ (let r = stands_in ranges slot later in (suc r.0, omega (arith, r.1), r.2))
]

-- Each range ends before a later one begins.
apart : (ranges : List (ℕ × ℕ)) (i j : ℕ) (d : ℕ × ℕ) → Rises nat_cmp (slots_in_ranges ranges) → All (λ range. range.0 < range.1) ranges → i < j → j < length ranges → (get_or ranges i d).1 ≤ (get_or ranges j d).0
apart [] i j d rises filled less within = absurd (omega arith)
apart (range ∷ ranges) i zero d rises filled less within = absurd (omega arith)
apart (range ∷ ranges) zero (suc j) d rises filled less within =
    let some = All-head (λ range. range.0 < range.1) range ranges filled in
    let later : (get_or ranges j d).0 < (get_or ranges j d).1 = All-tail (λ range. range.0 < range.1) range ranges filled j d (omega arith) in
    let last = (in_between range.0 range.1 (range.1 - 1)).1 (omega arith, omega arith) in
    let first = in_ranges ranges j d (get_or ranges j d).0 (omega arith) (omega arith) later in
    omega (arith, front_less (slots_between range.0 range.1) (slots_in_ranges ranges) (range.1 - 1) (get_or ranges j d).0 rises last first)
apart (range ∷ ranges) (suc i) (suc j) d rises filled less within =
    apart ranges i j d (behind_rises (slots_between range.0 range.1) (slots_in_ranges ranges) rises) (All-tail (λ range. range.0 < range.1) range ranges filled) (omega arith) (omega arith)

-- The ends of ranges rise.
pub ends_rise : (ranges : List (ℕ × ℕ)) → AreSlotRanges ranges → IsNonDecreasingBy (λ range. range.1) ranges
ends_rise ranges are i j d upto within = elim (cases_lt i j) [
  | inl less ↦ (let before = apart ranges i j d are.rises are.filled less within in let some = are.filled j d within in omega (arith, before, some))
  | inr more ↦ (let same : i ≡ j = omega arith in subst (λ (k : ℕ). (get_or ranges i d).1 ≤ (get_or ranges k d).1) same (omega arith))
]

-- A slot is in the first range that ends after it, if anywhere.
pub at_point : (ranges : List (ℕ × ℕ)) (slot place : ℕ) (d : ℕ × ℕ) → AreSlotRanges ranges → IsPartitionPoint (λ range. leb range.1 slot ≡ true) (λ range. leb range.1 slot ≡ false) ranges place
    → IsIn slot (slots_in_ranges ranges) → (place < length ranges) × ((get_or ranges place d).0 ≤ slot)
at_point ranges slot place d are point at =
    let r = stands_in ranges slot at in by r (cases_lt r.0 place)
  where
    by : (r : (i : ℕ) × (i < length ranges) × ((d : ℕ × ℕ) → ((get_or ranges i d).0 ≤ slot) × (slot < (get_or ranges i d).1))) → (r.0 < place) ⊎ (place ≤ r.0) → (place < length ranges) × ((get_or ranges place d).0 ≤ slot)
    by r (inl before) = absurd (let ended = leb-true (get_or ranges r.0 d).1 slot (point.0 r.0 d (omega arith) before) in omega (arith, ended, (r.2 d).1))
    by r (inr behind) = (
      omega (arith, behind, r.1),
      elim (cases_lt place r.0) [
        | inl later ↦ (let some = are.filled place d (omega (arith, later, r.1)) in omega (arith, some, apart ranges place r.0 d are.rises are.filled later r.1, (r.2 d).0))
        | inr here ↦ (let same : r.0 ≡ place = omega arith in subst (λ (k : ℕ). (get_or ranges k d).0 ≤ slot) same (r.2 d).0)
      ],
    )

-- A slot that the first range after it begins before is in it.
pub in_point : (ranges : List (ℕ × ℕ)) (slot place : ℕ) (d : ℕ × ℕ) → IsPartitionPoint (λ range. leb range.1 slot ≡ true) (λ range. leb range.1 slot ≡ false) ranges place
    → place < length ranges → (get_or ranges place d).0 ≤ slot → IsIn slot (slots_in_ranges ranges)
in_point ranges slot place d point within low = in_ranges ranges place d slot within low (leb-false (get_or ranges place d).1 slot (point.1 place d (omega arith) within))

-- ---- how many slots there are

length_between : (first end : ℕ) → length (slots_between first end) ≡ end - first
length_between first end = length-range_with_len first (end - first)

count_below : (ranges : List (ℕ × ℕ)) (i low : ℕ) (d : ℕ × ℕ) → Rises nat_cmp (slots_in_ranges ranges) → All (λ range. range.0 < range.1) ranges
    → i < length ranges → low ≤ (get_or ranges 0 d).0 → low + length (slots_in_ranges (take i ranges)) ≤ (get_or ranges i d).0
count_below [] i low d rises filled within from = absurd (omega arith)
count_below (range ∷ ranges) zero low d rises filled within from = omega (arith, from)
count_below (range ∷ ranges) (suc i) low d rises filled within from =
    let some : range.0 < range.1 = All-head (λ range. range.0 < range.1) range ranges filled in
    let next = apart (range ∷ ranges) 0 1 d rises filled (omega arith) (omega arith) in
    let later = count_below ranges i range.1 d (behind_rises (slots_between range.0 range.1) (slots_in_ranges ranges) rises)
    (All-tail (λ range. range.0 < range.1) range ranges filled) (omega arith) next in
    let both = length-append (slots_between range.0 range.1) (slots_in_ranges (take i ranges)) in
    let here = length_between range.0 range.1 in
    omega (arith, later, some, both, here, from)

-- There are no more slots before a range than its first slot says.
pub slots_before_range : (ranges : List (ℕ × ℕ)) (i : ℕ) (d : ℕ × ℕ) → AreSlotRanges ranges → i < length ranges
    → length (slots_in_ranges (take i ranges)) ≤ (get_or ranges i d).0
slots_before_range ranges i d are within = let both = count_below ranges i 0 d are.rises are.filled within (omega arith) in omega (arith, both)

-- The slots up to the end of a range.
pub slots_upto_range : (ranges : List (ℕ × ℕ)) (i : ℕ) (d : ℕ × ℕ) → i < length ranges
    → length (slots_in_ranges (take (suc i) ranges)) ≡ length (slots_in_ranges (take i ranges)) + ((get_or ranges i d).1 - (get_or ranges i d).0)
slots_upto_range ranges i d within =
    let range = get_or ranges i d in
    let more : length (slots_in_ranges (take (suc i) ranges)) ≡ length (slots_in_ranges (take i ranges) ++ slots_between range.0 range.1) =
    ap (λ taken. length (slots_in_ranges taken)) (take-suc ranges i d within) ∙ ap length (slots_push (take i ranges) range.0 range.1) in
    let both = length-append (slots_in_ranges (take i ranges)) (slots_between range.0 range.1) in
    let here = length_between range.0 range.1 in
    omega (arith, more, both, here)

-- ---- the slot at a place

at_with_len : (first n at : ℕ) (slots : List ℕ) → at < n → slice_get (range_with_len first n ++ slots) at ≡ Some (first + at)
at_with_len first zero at slots within = absurd (omega arith)
at_with_len first (suc n) zero slots within = let same : first ≡ first + 0 = omega arith in ap Some same
at_with_len first (suc n) (suc at) slots within =
    let same : (first + 1) + at ≡ first + suc at = omega arith in
    at_with_len (first + 1) n at slots (omega arith) ∙ ap Some same

after_with_len : (first n at : ℕ) (slots : List ℕ) → n ≤ at → slice_get (range_with_len first n ++ slots) at ≡ slice_get slots (at - n)
after_with_len first zero at slots beyond = let same : at ≡ at - 0 = omega arith in ap (slice_get slots) same
after_with_len first (suc n) zero slots beyond = absurd (omega arith)
after_with_len first (suc n) (suc at) slots beyond =
    let same : at - n ≡ suc at - suc n = omega arith in
    after_with_len (first + 1) n at slots (omega arith) ∙ ap (slice_get slots) same

-- A place in the first of the ranges that are left.
pub at_in_range : (ranges : List (ℕ × ℕ)) (i at : ℕ) (d : ℕ × ℕ) → i < length ranges → at < (get_or ranges i d).1 - (get_or ranges i d).0
    → slice_get (slots_in_ranges (drop i ranges)) at ≡ Some ((get_or ranges i d).0 + at)
at_in_range ranges i at d within here =
    let range = get_or ranges i d in
    ap (λ left. slice_get (slots_in_ranges left) at) (drop-cons ranges i d within)
    ∙ at_with_len range.0 (range.1 - range.0) at (slots_in_ranges (drop (suc i) ranges)) here

-- A place after it.
pub at_after_range : (ranges : List (ℕ × ℕ)) (i at : ℕ) (d : ℕ × ℕ) → i < length ranges → (get_or ranges i d).1 - (get_or ranges i d).0 ≤ at
    → slice_get (slots_in_ranges (drop i ranges)) at ≡ slice_get (slots_in_ranges (drop (suc i) ranges)) (at - ((get_or ranges i d).1 - (get_or ranges i d).0))
at_after_range ranges i at d within beyond =
    let range = get_or ranges i d in
    ap (λ left. slice_get (slots_in_ranges left) at) (drop-cons ranges i d within)
    ∙ after_with_len range.0 (range.1 - range.0) at (slots_in_ranges (drop (suc i) ranges)) beyond
