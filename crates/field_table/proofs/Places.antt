-- The indexes with a field more at the end, and the places put in order.
use Rattle.std.proofs.Common.{◌≡◌, ◌⊎◌, inl, inr, ℕ, ◌+◌, ◌<◌, ◌≤◌, zero, suc, List, [], ◌∷◌, ◌++◌, Bool, true, false, length, get_or, refl, ◌∙◌, ap, subst, arith}
use Rattle.std.specs.Prelude.{◌≢◌}
use Rattle.std.specs.Cmp.{IsStrictWeakOrder}
use Rattle.std.specs.Cmp.Lexicographic.{slice_cmp}
use Rattle.std.specs.List.{slice_index}
use Rattle.std.specs.List.Sorted.{IsPermutation, IsSortedBy}
use Rattle.std.specs.Ordering.{nat_cmp, ordering_reverse, is_lt}
use Rattle.std.specs.declared.cmp.Ordering.TheVariants.{Greater}
use Rattle.std.proofs.lemmas.Bool.{cases_lt}
use Rattle.std.proofs.lemmas.Cmp.{nat_list_cmp_total}
use Rattle.std.proofs.lemmas.List.{length-append, get_or_append_left, get_or_push, get_or_default}
use Rattle.std.proofs.lemmas.List.Sorted.{ranks_by, sorted_far, Contains-permutation, IsPermutation-sym}
use Rattle.context_model.specs.Orders.{IsIn}
use Rattle.bag_model.specs.Shapes as model
use Rattle.bag_model.specs.Slots.{slot_count}
use Rattle.bag_model.proofs.SlotLaws.{slots_list, length-slots}
use Rattle.field_table.specs.Tables.{capped, ends_after, HasPlaces, IsNameOrder}
use Rattle.field_table.proofs.Ranks.{ranked, stands}

-- The ends with one field more.
pub ends_push : (b : ℕ) (fs : List model.Field) (f : model.Field) → ends_after b (fs ++ f ∷ []) ≡ ends_after b fs ++ capped (b + length (slots_list fs) + slot_count f.shape) ∷ []
ends_push b [] f = ap (λ n. capped n ∷ []) (omega arith)
ends_push b (g ∷ gs) f =
    ap (λ l. capped (b + slot_count g.shape) ∷ l) (
    ends_push (b + slot_count g.shape) gs f ∙ ap (λ n. ends_after (b + slot_count g.shape) gs ++ capped n ∷ []) (omega (arith, length-slots g gs))
    )

there : (xs : List ℕ) (i d : ℕ) → i < length xs → IsIn (get_or xs i d) xs
there [] i d h = absurd (omega (arith, h))
there (x ∷ xs) zero d h = inl refl
there (x ∷ xs) (suc i) d h = inr (there xs i d (omega (arith, h)))

-- The places with one more.
pub places_push : (names : List (List ℕ)) (places : List ℕ) (name : List ℕ) → HasPlaces names places → HasPlaces (names ++ name ∷ []) (places ++ length names ∷ [])
places_push names places name h = record { all = λ place less. all_by place less (cases_lt place (length names)); below = λ k less. below_by k less (cases_lt k (length places)) }
  where
    more : List ℕ
    more = places ++ length names ∷ []

    long : length (names ++ name ∷ []) ≡ length names + 1
    long = length-append names (name ∷ [])

    longer : length more ≡ length places + 1
    longer = length-append places (length names ∷ [])

    held : (k place : ℕ) → k < length more → slice_index more k ≡ place → IsIn place more
    held k place less is = subst (λ (p : ℕ). IsIn p more) is (there more k 0 less)

    all_by : (place : ℕ) → place < length (names ++ name ∷ []) → (place < length names) ⊎ (length names ≤ place) → IsIn place more
    all_by place less (inl old) =
        let r = stands place places (h.all place old) in
        held r.rank place (omega (arith, r.within, longer)) (get_or_append_left places (length names ∷ []) 0 r.rank r.within ∙ r.is)
    all_by place less (inr last) = held (length places) place (omega (arith, longer)) (get_or_push places (length names) 0 (length places) refl ∙ omega (arith, less, long, last))

    below_by : (k : ℕ) → k < length more → (k < length places) ⊎ (length places ≤ k) → slice_index more k < length (names ++ name ∷ [])
    below_by k less (inl old) = omega (arith, long, get_or_append_left places (length names ∷ []) 0 k old, h.below k old)
    below_by k less (inr last) = omega (arith, long, get_or_push places (length names) 0 k (omega (arith, less, longer, last)))

-- What is in a list is in each permutation of it.
moved : (xs ys : List ℕ) (k : ℕ) → IsPermutation xs ys → k < length xs → (j : ℕ) × (j < length ys) × (slice_index ys j ≡ slice_index xs k)
moved xs ys k permuted less =
    let x = slice_index xs k in
    let r = Contains-permutation xs ys x permuted (k, less, get_or_default xs k x 0 less) in
    (r.0, r.1, get_or_default ys r.0 0 x r.1 ∙ r.2)

-- The test by which places are sorted: the name there is less.
abbrev pub named_less : List (List ℕ) → ℕ → ℕ → Bool
named_less names one other = is_lt (slice_cmp nat_cmp (get_or names one []) (get_or names other []))

pub less_orders : (names : List (List ℕ)) → IsStrictWeakOrder (named_less names)
less_orders names = ranks_by nat_list_cmp_total (λ place. get_or names place [])

-- The places of all names, once they are sorted by that test.
pub places_sorted : (names : List (List ℕ)) (places sorted : List ℕ) → HasPlaces names places → IsPermutation places sorted → IsSortedBy (named_less names) sorted → IsNameOrder names sorted
places_sorted names places sorted h permuted up = record { places_are = record { all = all; below = below }; sorted = in_order }
  where
    all : (place : ℕ) → place < length names → IsIn place sorted
    all place less =
        let r = stands place places (h.all place less) in
        let m = moved places sorted r.rank permuted r.within in
        subst (λ (p : ℕ). IsIn p sorted) (m.2 ∙ r.is) (there sorted m.0 0 m.1)

    below : (k : ℕ) → k < length sorted → slice_index sorted k < length names
    below k less =
        let m = moved sorted places k (IsPermutation-sym places sorted permuted) less in
        subst (λ (p : ℕ). p < length names) m.2 (h.below m.0 m.1)

    in_order : (i j : ℕ) → i < j → j < length sorted → slice_cmp nat_cmp (ranked names sorted i) (ranked names sorted j) ≢ Greater
    in_order i j less within greater =
        let not_less : is_lt (slice_cmp nat_cmp (ranked names sorted j) (ranked names sorted i)) ≡ false =
        sorted_far (named_less names) (less_orders names) sorted up i j 0 (omega (arith, less)) within
        in
        let back : is_lt (slice_cmp nat_cmp (ranked names sorted j) (ranked names sorted i)) ≡ true =
        ap is_lt (nat_list_cmp_total.antisymm (ranked names sorted j) (ranked names sorted i) ∙ ap ordering_reverse greater)
        in cc (not_less, back)
