-- Names in order: what one comparison says of all places on its one side.
use Rattle.std.proofs.Common.{◌≡◌, ◌⊎◌, inl, inr, ℕ, ◌+◌, ◌<◌, ◌≤◌, zero, suc, Bool, true, false, List, [], ◌∷◌, length, get_or, Some, None, refl, sym, ◌∙◌, ap, subst, arith}
use Rattle.std.specs.Prelude.{◌≢◌}
use Rattle.std.specs.Cmp.{tied_itself}
use Rattle.std.specs.Cmp.Lexicographic.{slice_cmp}
use Rattle.std.specs.List.{slice_get, slice_index, slice_index_or}
use Rattle.std.specs.List.Sorted.{IsPartitionedBy, IsPartitionPoint}
use Rattle.std.specs.Ordering.{nat_cmp, is_lt}
use Rattle.std.specs.declared.cmp.Ordering.{Ordering}
use Rattle.std.specs.declared.cmp.Ordering.TheVariants.{Less, Equal, Greater}
use Rattle.std.proofs.lemmas.Bool.{cases_lt}
use Rattle.std.proofs.lemmas.Cmp.{nat_list_cmp_total}
use Rattle.std.proofs.lemmas.Map.Lookups.{exact_bytes}
use Rattle.std.proofs.lemmas.Option.{slice_get_within, get_or_from_slice_get}
use Rattle.context_model.specs.Orders.{IsIn}
use Rattle.field_table.specs.Tables.{IsNameOrder, IsRank, IsPlaceOf}

abbrev pub name_cmp : List ℕ → List ℕ → Ordering
name_cmp = slice_cmp nat_cmp

-- What isn't after something less is less.
not_behind : (a b c : List ℕ) → name_cmp a b ≢ Greater → name_cmp b c ≡ Less → name_cmp a c ≡ Less
not_behind a b c h less = by (name_cmp a b) refl
  where
    by : (o : Ordering) → name_cmp a b ≡ o → name_cmp a c ≡ Less
    by Less e = nat_list_cmp_total.trans a b c e less
    by Equal e = nat_list_cmp_total.congr a b c e ∙ less
    by Greater e = absurd (h e)

-- The name at this place in the order of names.
abbrev pub ranked : List (List ℕ) → List ℕ → ℕ → List ℕ
ranked names places k = get_or names (slice_index places k) []

sorted_upto : (names : List (List ℕ)) (places : List ℕ) → IsNameOrder names places → (i j : ℕ) → i ≤ j → j < length places → name_cmp (ranked names places i) (ranked names places j) ≢ Greater
sorted_upto names places order i j h k = by (cases_lt i j)
  where
    by : (i < j) ⊎ (j ≤ i) → name_cmp (ranked names places i) (ranked names places j) ≢ Greater
    by (inl less) = order.sorted i j less k
    by (inr more) = λ greater.
        let same : i ≡ j = omega (arith, h, more) in
        let tie : name_cmp (ranked names places i) (ranked names places i) ≡ Equal = tied_itself nat_list_cmp_total (ranked names places i) in
        let back : name_cmp (ranked names places i) (ranked names places i) ≡ Greater = subst (λ (n : ℕ). name_cmp (ranked names places i) (ranked names places n) ≡ Greater) (sym same) greater in
        cc (tie, back)

pub less_before : (names : List (List ℕ)) (places : List ℕ) (name : List ℕ) (m : ℕ) → IsNameOrder names places → m < length places → name_cmp (ranked names places m) name ≡ Less
    → (k : ℕ) → k < m + 1 → name_cmp (ranked names places k) name ≡ Less
less_before names places name m order h less k below = not_behind (ranked names places k) (ranked names places m) name (sorted_upto names places order k m (omega (arith, below)) h) less

is_less : (o : Ordering) → is_lt o ≡ true → o ≡ Less
is_less Less e = refl
is_less Equal e = absurd (cc e)
is_less Greater e = absurd (cc e)

is_not_less : (o : Ordering) → is_lt o ≡ false → o ≢ Less
is_not_less o e less = let bad : true ≡ false = ap is_lt (sym less) ∙ e in cc bad

any_default : (places : List ℕ) (i d : ℕ) → i < length places → slice_index_or places i d ≡ slice_index places i
any_default [] i d h = absurd (omega arith)
any_default (p ∷ places) zero d h = refl
any_default (p ∷ places) (suc i) d h = any_default places i d (omega arith)

-- The name at a place is less than this one.
abbrev pub comes_before : List (List ℕ) → List ℕ → ℕ → Bool
comes_before names name place = is_lt (name_cmp (get_or names place []) name)

-- In the order of names the lesser names come first.
pub lesser_first : (names : List (List ℕ)) (places : List ℕ) (name : List ℕ) → IsNameOrder names places → IsPartitionedBy (comes_before names name) places
lesser_first names places name order i j d upto within before =
    let there : comes_before names name (slice_index places j) ≡ true = ap (comes_before names name) (sym (any_default places j d within)) ∙ before in
    let less = less_before names places name j order within (is_less (name_cmp (ranked names places j) name) there) i (omega arith) in
    ap (comes_before names name) (any_default places i d (omega arith)) ∙ ap is_lt less

-- As many names come before this one as there are up to there.
pub rank_there : (names : List (List ℕ)) (places : List ℕ) (name : List ℕ) (rank : ℕ) → rank ≤ length places
    → IsPartitionPoint (λ place. comes_before names name place ≡ true) (λ place. comes_before names name place ≡ false) places rank → IsRank names places name rank
rank_there names places name rank bound point = record {
  within = bound;
  before = λ k less. is_less (name_cmp (ranked names places k) name) (ap (comes_before names name) (sym (any_default places k 0 (omega arith))) ∙ point.0 k 0 (omega arith) less);
  behind = λ k above within. is_not_less (name_cmp (ranked names places k) name) (ap (comes_before names name) (sym (any_default places k 0 within)) ∙ point.1 k 0 above within);
}

-- Where a place is in a list.
pub record StandsAt (place : ℕ) (places : List ℕ) : Type 0 where
  pub rank : ℕ
  pub within : rank < length places
  pub is : slice_index places rank ≡ place

pub stands : (place : ℕ) (places : List ℕ) → IsIn place places → StandsAt place places
stands place [] h = absurd h
stands place (p ∷ places) (inl same) = record { rank = 0; within = omega arith; is = sym same }
stands place (p ∷ places) (inr later) = let r = stands place places later in record { rank = suc r.rank; within = omega (arith, r.within); is = r.is }

named_there : (names : List (List ℕ)) (places : List ℕ) (name : List ℕ) → IsNameOrder names places → (place : ℕ) → slice_get names place ≡ Some name
    → (rank : ℕ) × (rank < length places) × (ranked names places rank ≡ name)
named_there names places name order place at =
    let r = stands place places (order.places_are.all place (slice_get_within names place name at)) in
    (r.rank, r.within, ap (λ n. get_or names n []) r.is ∙ get_or_from_slice_get names place name [] at)

-- After all ranks no name is left.
pub none_left : (names : List (List ℕ)) (places : List ℕ) (name : List ℕ) (rank : ℕ) → IsNameOrder names places → IsRank names places name rank → rank ≡ length places → IsPlaceOf names name None
none_left names places name rank order found is place at =
    let r = named_there names places name order place at in
    let less : name_cmp (ranked names places r.0) name ≡ Less = found.before r.0 (omega (arith, r.1, is)) in
    let tie : name_cmp name name ≡ Equal = tied_itself nat_list_cmp_total name in
    let less' : name_cmp name name ≡ Less = subst (λ (n : List ℕ). name_cmp n name ≡ Less) r.2 less in
    cc (tie, less')

-- Where the name at its rank is another, there is no such name.
pub none_there : (names : List (List ℕ)) (places : List ℕ) (name : List ℕ) (rank : ℕ) → IsNameOrder names places → IsRank names places name rank → rank < length places
    → ranked names places rank ≢ name → IsPlaceOf names name None
none_there names places name rank order found within other place at =
    let r = named_there names places name order place at in by r (cases_lt r.0 rank)
  where
    tie : name_cmp name name ≡ Equal
    tie = tied_itself nat_list_cmp_total name

    by : (r : (k : ℕ) × (k < length places) × (ranked names places k ≡ name)) → (r.0 < rank) ⊎ (rank ≤ r.0) → ⊥
    by r (inl less) = let l : name_cmp name name ≡ Less = subst (λ (n : List ℕ). name_cmp n name ≡ Less) r.2 (found.before r.0 less) in cc (tie, l)
    by r (inr more) = at_rank (name_cmp (ranked names places rank) name) refl
      where
        at_rank : (o : Ordering) → name_cmp (ranked names places rank) name ≡ o → ⊥
        at_rank Less e = found.behind rank (omega arith) within e
        at_rank Equal e = other (exact_bytes (ranked names places rank) name e)
        at_rank Greater e = sorted_upto names places order rank r.0 more r.1 (subst (λ (n : List ℕ). name_cmp (ranked names places rank) n ≡ Greater) (sym r.2) e)
