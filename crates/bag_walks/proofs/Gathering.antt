-- What a walk gathers is what is read.
use Rattle.std.proofs.Common.{◌≡◌, ℕ, ◌^◌, ◌<◌, ◌≤◌, ◌⊎◌, ◌↔◌, Bool, true, IsTrue, List, [], ◌∷◌, ◌++◌, length, Some, None, Ordering, Less, Greater, Equal, sym, refl, ap, ◌∙◌, subst, arith, inl, inr}
use Rattle.std.specs.Ordering.{ordering_then, ordering_reverse, nat_cmp}
use Rattle.std.specs.Cmp.{nat_cmp_is}
use Rattle.std.proofs.lemmas.Bool.{cases_order}
use Rattle.std.proofs.lemmas.Cmp.{tied_itself}
use Rattle.std.proofs.lemmas.List.{append-nil}
use Rattle.context_model.specs.Atoms.{Atom}
use Rattle.context_model.specs.KeyedMerge.{keys_of, EachPair}
use Rattle.context_model.specs.GreedyMerge.{AllBelow}
use Rattle.context_model.specs.Orders.{Path, atom_cmp, path_cmp, IsIn}
use Rattle.context_model.specs.Paths.{is_header, level, atom_at, path_at}
use Rattle.context_model.specs.Varints.{unsigned_varint}
use Rattle.context_model.proofs.OrderLaws.{atoms_total}
use Rattle.context_model.proofs.PlacesOf.{paths_rise}
use Rattle.context_model.proofs.VarintLaws.{unsigned_varint-order, unsigned_varint-injective}
use Rattle.bag_model.specs.declared.Pick.{Pick}
use Rattle.bag_model.specs.declared.Pick.TheVariants.{Least, Greatest}
use Rattle.bag_model.specs.Readings.{PathsOf, IsFirst, IsGreatest, Reads}
use Rattle.bag_model.specs.Scalars.{ScalarKind, ScalarValue, scalar_cmp, pick_cmp, IsScalarOf, spelling}
use Rattle.bag_model.specs.Shapes.{Shape}
use Rattle.bag_model.specs.Values.{Value}
use Rattle.bag_model.proofs.ScalarOrder.{pick_total}
use Rattle.bag_model.proofs.SpellingOrder.{spelling-order, spelling-one}
use Rattle.bag_walks.specs.Parts.{IsBehind, HasNoHeader, IsDataPart, StaysBelow, Stands}
use Rattle.bag_walks.specs.Gathering.{IsDatumAt, IsFirstDatum, IsLastDatum, IsDatumThatStays}
use Rattle.bag_walks.proofs.Inside.{inside_along, datum_there, header_there}
use Rattle.bag_walks.proofs.Bridge.{data_are}

-- ---- lists

pub in_push : {K : Type 0} (xs : List K) (x y : K) → IsIn x (xs ++ y ∷ []) ↔ (IsIn x xs ⊎ (x ≡ y))
in_push {K} xs x y = (to xs, from xs)
  where
    to : (xs : List K) → IsIn x (xs ++ y ∷ []) → IsIn x xs ⊎ (x ≡ y)
    to [] (inl e) = inr e
    to [] (inr none) = absurd none
    to (z ∷ zs) (inl e) = inl (inl e)
    to (z ∷ zs) (inr i) = elim (to zs i) [ inl j ↦ inl (inr j) | inr e ↦ inr e ]

    from : (xs : List K) → IsIn x xs ⊎ (x ≡ y) → IsIn x (xs ++ y ∷ [])
    from [] (inl none) = absurd none
    from [] (inr e) = inl e
    from (z ∷ zs) (inl (inl e)) = inl e
    from (z ∷ zs) (inl (inr i)) = inr (from zs (inl i))
    from (z ∷ zs) (inr e) = inr (from zs (inr e))

pub all_below : {K : Type 0} (R : K → K → Ordering) (xs : List K) (k : K) → ((x : K) → IsIn x xs → R x k ≡ Less) → AllBelow R xs k
all_below R [] k f = tt
all_below R (x ∷ xs) k f = (f x (inl refl), all_below R xs k (λ y i. f y (inr i)))

pub keys_push : {K X : Type 0} (es : List (K × X)) (k : K) (v : X) → keys_of (es ++ (k, v) ∷ []) ≡ keys_of es ++ k ∷ []
keys_push [] k v = refl
keys_push (e ∷ es) k v = ap (λ l. e.0 ∷ l) (keys_push es k v)

pub each_push : {K X : Type 0} (P : K → X → Type 0) (es : List (K × X)) (k : K) (v : X) → EachPair P es → P k v → EachPair P (es ++ (k, v) ∷ [])
each_push P [] k v each p = (p, tt)
each_push P (e ∷ es) k v each p = (each.0, each_push P es k v each.1 p)

-- ---- the order of what is after one path

less_behind : (q : Path) (a b : Atom) → path_cmp (q ++ a ∷ []) (q ++ b ∷ []) ≡ Less → atom_cmp a b ≡ Less
less_behind [] a b h = by (atom_cmp a b) h
  where
    by : (o : Ordering) → ordering_then o Equal ≡ Less → o ≡ Less
    by Less e = refl
    by Equal e = e
    by Greater e = e
less_behind (x ∷ q) a b h = less_behind q a b (ap (λ o. ordering_then o (path_cmp (q ++ a ∷ []) (q ++ b ∷ []))) (sym (tied_itself atoms_total x)) ∙ h)

pub same_first : (b : ℕ) (x y : List ℕ) → atom_cmp (b ∷ x) (b ∷ y) ≡ atom_cmp x y
same_first b x y = ap (λ o. ordering_then o (atom_cmp x y)) (sym (nat_cmp_is b b Equal refl))

-- Of two data after a path the earlier has the lesser payload.
pub datum_before : (list : List Atom) (q : Path) (from to j k : ℕ) (x y : List ℕ) → IsBehind list q from → HasNoHeader list from to → from ≤ j → j < k → k < to
    → atom_at list j ≡ 0 ∷ x → atom_at list k ≡ 0 ∷ y → atom_cmp x y ≡ Less
datum_before list q from to j k x y behind part l m n is_x is_y =
    sym (same_first 0 x y) ∙ less_behind q (0 ∷ x) (0 ∷ y)
    (subst (λ p. path_cmp p (q ++ (0 ∷ y) ∷ []) ≡ Less) (datum_there list q from to j x behind part l (omega arith) is_x)
    (subst (λ p. path_cmp (path_at list j) p ≡ Less) (datum_there list q from to k y behind part (omega arith) n is_y)
    (paths_rise list behind.well_formed j k m (omega (arith, part.within)))))

-- Of two headers of the level below a path the earlier one is less.
pub header_before : (list : List Atom) (q : Path) (from to j k : ℕ) → IsBehind list q from → StaysBelow list (length q) from to → from ≤ j → j < k → k < to
    → is_header (atom_at list j) ≡ true → level (atom_at list j) ≡ length q → is_header (atom_at list k) ≡ true → level (atom_at list k) ≡ length q
    → atom_cmp (atom_at list j) (atom_at list k) ≡ Less
header_before list q from to j k behind stays l m n header_j level_j header_k level_k =
    less_behind q (atom_at list j) (atom_at list k)
    (subst (λ p. path_cmp p (q ++ atom_at list k ∷ []) ≡ Less)
    (header_there list q j (omega (arith, stays.within)) (inside_along list q from to behind stays j l (omega arith)) header_j level_j)
    (subst (λ p. path_cmp (path_at list j) p ≡ Less)
    (header_there list q k (omega (arith, stays.within)) (inside_along list q from to behind stays k (omega arith) (omega arith)) header_k level_k)
    (paths_rise list behind.well_formed j k m (omega (arith, stays.within)))))

-- ---- taints and scalars

-- A datum is read at q exactly where one is among the data after q.
pub taint_reads : (list : List Atom) (q : Path) (from to : ℕ) (on : Bool) → IsBehind list q from → IsDataPart list from to
    → (IsTrue on ↔ ((place : ℕ) × (from ≤ place) × (place < to) × IsDatumAt list place)) → Reads Shape.Taint (PathsOf list) q (Value.Taint on)
taint_reads list q from to on behind its known = (
  λ t. let (place, l, m, (within, (payload, is))) = known.0 t in (payload, (data_are list q from to payload behind its).1 (record { place = place; from_on = l; up_to = m; atom = is })),
  λ (payload, i). let s : Stands list (0 ∷ payload) from to = (data_are list q from to payload behind its).0 i in
      known.1 (s.place, s.from_on, s.up_to, (omega (arith, s.up_to, its.part.within), (payload, s.atom))),
)

-- No two values come one before the other in either direction.
both_ways : (pick : Pick) (v w : ScalarValue) → pick_cmp pick v w ≡ Less → pick_cmp pick w v ≡ Less → ⊥
both_ways pick v w less back =
    let turned : pick_cmp pick w v ≡ Greater = (pick_total pick).antisymm w v ∙ ap ordering_reverse less in
    let clash : Less ≡ Greater = sym back ∙ turned in
    cc

module _ (kind : ScalarKind) (list : List Atom) (q : Path) (from to : ℕ) (behind : IsBehind list q from) (its : IsDataPart list from to) where
  -- Where there is no datum, no value is read.
  none_reads : (pick : Pick) → IsFirstDatum list from to None → IsFirst (pick_cmp pick) kind (PathsOf list) q None
  none_reads pick none w (fits, i) =
      let s : Stands list (0 ∷ spelling kind w) from to = (data_are list q from to (spelling kind w) behind its).0 i in
      none s.place s.from_on s.up_to (omega (arith, s.up_to, its.part.within), (spelling kind w, s.atom))

  -- The value of the earlier of two data is the lesser one.
  value_before : (j k : ℕ) (v w : ScalarValue) → IsScalarOf kind v → IsScalarOf kind w → from ≤ j → j < k → k < to → atom_at list j ≡ 0 ∷ spelling kind v → atom_at list k ≡ 0 ∷ spelling kind w → scalar_cmp v w ≡ Less
  value_before j k v w fits_v fits_w l m n is_v is_w =
      sym (spelling-order kind v w fits_v fits_w) ∙ datum_before list q from to j k (spelling kind v) (spelling kind w) behind its.part l m n is_v is_w

  -- The datum of a value that comes before those of all others, in the order in which the value that stays comes first.
  end_reads : (pick : Pick) (place : ℕ) (v : ScalarValue) → from ≤ place → place < to → IsScalarOf kind v → atom_at list place ≡ 0 ∷ spelling kind v
      → ((k : ℕ) (w : ScalarValue) → IsScalarOf kind w → atom_at list k ≡ 0 ∷ spelling kind w → from ≤ k → k < to → (place ≡ k → ⊥) → pick_cmp pick v w ≡ Less)
      → IsFirst (pick_cmp pick) kind (PathsOf list) q (Some v)
  end_reads pick place v l m fits is before = (
    (fits, (data_are list q from to (spelling kind v) behind its).1 (record { place = place; from_on = l; up_to = m; atom = is })),
    λ w (fits_w, i) less. not_less w fits_w ((data_are list q from to (spelling kind w) behind its).0 i) less,
  )
    where
      same_value : (w : ScalarValue) → IsScalarOf kind w → (s : Stands list (0 ∷ spelling kind w) from to) → place ≡ s.place → w ≡ v
      same_value w fits_w s same = spelling-one kind w v fits_w fits (payload (sym s.atom ∙ ap (atom_at list) (sym same) ∙ is))
        where
          payload : 0 ∷ spelling kind w ≡ 0 ∷ spelling kind v → spelling kind w ≡ spelling kind v
          payload e = cc

      not_less : (w : ScalarValue) → IsScalarOf kind w → Stands list (0 ∷ spelling kind w) from to → pick_cmp pick w v ≡ Less → ⊥
      not_less w fits_w s less = elim (cases_order place s.place) [
        | inl same ↦ both_ways pick v v (self_less same) (self_less same)
        | inr (inl later) ↦ both_ways pick v w (before s.place w fits_w s.atom s.from_on s.up_to (λ same. omega arith)) less
        | inr (inr earlier) ↦ both_ways pick v w (before s.place w fits_w s.atom s.from_on s.up_to (λ same. omega arith)) less
      ]
        where
          self_less : place ≡ s.place → pick_cmp pick v v ≡ Less
          self_less same = subst (λ u. pick_cmp pick u v ≡ Less) (same_value w fits_w s same) less

  -- The first datum is that of the least value.
  first_reads : (place : ℕ) (v : ScalarValue) → IsFirstDatum list from to (Some place) → IsScalarOf kind v → atom_at list place ≡ 0 ∷ spelling kind v
      → IsFirst (pick_cmp Least) kind (PathsOf list) q (Some v)
  first_reads place v first fits is = end_reads Least place v first.0 first.1 fits is (λ k w fits_w is_w l m other. elim (cases_order place k) [
    | inl same ↦ absurd (other same)
    | inr (inl later) ↦ value_before place k v w fits fits_w first.0 later m is is_w
    | inr (inr earlier) ↦ absurd (first.3 k l earlier (omega (arith, m, its.part.within), (spelling kind w, is_w)))
  ])

  -- And the last that of the greatest.
  last_reads : (place : ℕ) (v : ScalarValue) → IsLastDatum list from to (Some place) → IsScalarOf kind v → atom_at list place ≡ 0 ∷ spelling kind v
      → IsFirst (pick_cmp Greatest) kind (PathsOf list) q (Some v)
  last_reads place v last fits is = end_reads Greatest place v last.0 last.1 fits is (λ k w fits_w is_w l m other. elim (cases_order place k) [
    | inl same ↦ absurd (other same)
    | inr (inl later) ↦ absurd (last.3 k later m (omega (arith, m, its.part.within), (spelling kind w, is_w)))
    | inr (inr earlier) ↦ value_before k place w v fits_w fits l earlier last.1 is_w is
  ])

  -- Either way the datum that stays is that of the value that stays.
  pub stays_reads : (pick : Pick) (place : ℕ) (v : ScalarValue) → IsDatumThatStays pick list from to (Some place) → IsScalarOf kind v → atom_at list place ≡ 0 ∷ spelling kind v
      → IsFirst (pick_cmp pick) kind (PathsOf list) q (Some v)
  stays_reads Least place v first fits is = first_reads place v first fits is
  stays_reads Greatest place v last fits is = last_reads place v last fits is

  pub none_stays : (pick : Pick) → IsDatumThatStays pick list from to None → IsFirst (pick_cmp pick) kind (PathsOf list) q None
  none_stays Least none = none_reads Least none
  none_stays Greatest none = none_reads Greatest none

-- It is a datum of the part.
pub stays_there : (pick : Pick) (list : List Atom) (from to place : ℕ) → IsDatumThatStays pick list from to (Some place) → (from ≤ place) × (place < to) × IsDatumAt list place
stays_there Least list from to place first = (first.0, first.1, first.2)
stays_there Greatest list from to place last = (last.0, last.1, last.2)

-- ---- counts

module _ (list : List Atom) (q : Path) (from to : ℕ) (behind : IsBehind list q from) (its : IsDataPart list from to) where
  -- Where there is no datum, the count is 0.
  pub no_count_reads : IsLastDatum list from to None → IsGreatest (PathsOf list) q 0
  no_count_reads none = (
    inr refl,
    λ m (few, i).
        let s : Stands list (0 ∷ unsigned_varint m) from to = (data_are list q from to (unsigned_varint m) behind its).0 i in
        absurd (none s.place s.from_on s.up_to (omega (arith, s.up_to, its.part.within), (unsigned_varint m, s.atom))),
  )

  -- The last datum is that of the greatest count.
  pub last_count_reads : (place n : ℕ) → IsLastDatum list from to (Some place) → n < 2 ^ 64 → atom_at list place ≡ 0 ∷ unsigned_varint n → IsGreatest (PathsOf list) q n
  last_count_reads place n last few is = (
    inl (few, (data_are list q from to (unsigned_varint n) behind its).1 (record { place = place; from_on = last.0; up_to = last.1; atom = is })),
    λ m (few_m, i). at_most m few_m ((data_are list q from to (unsigned_varint m) behind its).0 i),
  )
    where
      at_most : (m : ℕ) → m < 2 ^ 64 → Stands list (0 ∷ unsigned_varint m) from to → m ≤ n
      at_most m few_m s = elim (cases_order s.place place) [
        | inl same ↦ (let e : unsigned_varint m ≡ unsigned_varint n = payload (sym s.atom ∙ ap (atom_at list) same ∙ is) in
            let one : m ≡ n = unsigned_varint-injective m n few_m few e in omega arith)
        | inr (inl earlier) ↦ lesser (datum_before list q from to s.place place (unsigned_varint m) (unsigned_varint n) behind its.part s.from_on earlier last.1 s.atom is)
        | inr (inr later) ↦ absurd (last.3 s.place later s.up_to (omega (arith, s.up_to, its.part.within), (unsigned_varint m, s.atom)))
      ]
        where
          payload : 0 ∷ unsigned_varint m ≡ 0 ∷ unsigned_varint n → unsigned_varint m ≡ unsigned_varint n
          payload e = cc

          lesser : atom_cmp (unsigned_varint m) (unsigned_varint n) ≡ Less → m ≤ n
          lesser less = elim (cases_order m n) [
            | inl same ↦ omega arith
            | inr (inl below) ↦ omega arith
            | inr (inr above) ↦ absurd (
                let order : ordering_then (nat_cmp m n) Equal ≡ Less = sym (unsigned_varint-order m n [] [] few_m few)
                ∙ ap (λ l. atom_cmp l (unsigned_varint n ++ [])) (append-nil (unsigned_varint m)) ∙ ap (atom_cmp (unsigned_varint m)) (append-nil (unsigned_varint n)) ∙ less in
                let greater : ordering_then (nat_cmp m n) Equal ≡ Greater = ap (λ o. ordering_then o Equal) (sym (nat_cmp_is m n Greater above)) in
                let clash : Less ≡ Greater = sym order ∙ greater in cc)
          ]
