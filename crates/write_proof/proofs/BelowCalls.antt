-- What calls that compare values owe and answer.
use Rattle.std.proofs.Common.{◌≡◌, ◌⊎◌, inl, inr, ◌↔◌, ℕ, zero, suc, ◌+◌, ◌<◌, ◌≤◌, true, false, IsTrue, IsSome, List, [], ◌∷◌, length, map, get_or, Option, Some, None, refl, sym, ap, ◌∙◌, subst, arith}
use Rattle.std.specs.Cmp.{IsTotalOrder, tied_itself}
use Rattle.std.specs.FinMap.{IsAntisymmetric}
use Rattle.std.specs.List.{slice_get}
use Rattle.std.specs.Option.{option_map}
use Rattle.std.specs.declared.cmp.Ordering.{Ordering}
use Rattle.std.specs.declared.cmp.Ordering.TheVariants.{Less, Equal, Greater}
use Rattle.std.specs.Ordering.{is_ge}
use Rattle.std.proofs.lemmas.Bool.{cases_lt}
use Rattle.context_model.specs.KeyedMerge.{IsAt}
use Rattle.context_model.specs.GreedyMerge.{first_of}
use Rattle.context_model.specs.Orders.{IsIn, by_order}
use Rattle.context_model.proofs.MergeLaws.{EachPair-at}
use Rattle.bag_model.specs.Joins.{Alike, join, join_values, IsValueBelow, Proper}
use Rattle.bag_model.specs.Scalars.{ScalarKind, ScalarValue, IsScalarOf}
use Rattle.bag_model.specs.Shapes.{Shape, Nodes, no_node, node}
use Rattle.bag_model.specs.Values.{Value, Entries, Values, Set, Counter, Map, Bag, no_entry, entry, no_value, value, pairs, values_list, value_count, value_count_of_entries, value_count_of_values, IsOfShape, AreOfShapes}
use Rattle.bag_model.proofs.OfShape.{Alike-shape, Proper-shape}
use Rattle.scalar_types.specs.KindCodec.{scalar_of, scalar_comes_back}
use Rattle.scalar_types.specs.Scalars.{value_of}
use Rattle.scalar_types.specs.declared.scalars.Scalar.{Scalar}
use Rattle.write_proof.specs.Belows.{AreOfOne, AreOfOneBag}
use Rattle.write_proof.proofs.BelowKinds.{set_below, set_within, counter_below, counter_within, map_below, map_within}

-- ---- scalars

some_value : (v w : ScalarValue) → Some v ≡ Some w → v ≡ w
some_value v w e = cc e

pub yes_answer : {P : Type 0} → P → IsTrue true ↔ P
yes_answer p = ((λ e. p), λ q. refl)

pub no_answer : {P : Type 0} → (P → ⊥) → IsTrue false ↔ P
no_answer n = ((λ e. absurd (cc e)), λ p. absurd (n p))

-- A scalar that stays over another isn't below it.
pub not_kept : (R : ScalarValue → ScalarValue → Ordering) → IsTotalOrder R → (v w : ScalarValue) → R v w ≡ Less → first_of R (Some v) (Some w) ≡ Some w → ⊥
not_kept R total v w less e =
    let mine : first_of R (Some v) (Some w) ≡ Some v = ap (λ r. by_order r (Some v) (Some v) (Some w)) less in
    let same : v ≡ w = some_value v w (sym mine ∙ e) in
    let tie : R v v ≡ Equal = tied_itself total v in
    let clash : R v v ≡ Less = ap (R v) same ∙ less in
    cc (tie, clash)

pub kept_equal : (R : ScalarValue → ScalarValue → Ordering) → IsAntisymmetric R → (v w : ScalarValue) → R v w ≡ Equal → first_of R (Some v) (Some w) ≡ Some w
kept_equal R exact v w e = ap (λ r. by_order r (Some v) (Some v) (Some w)) e ∙ ap Some (exact v w e)

-- The second of two values stays where the first isn't before it.
pub kept_from : (R : ScalarValue → ScalarValue → Ordering) → IsTotalOrder R → IsAntisymmetric R → (v w : ScalarValue) (order : Ordering) → R v w ≡ order
    → IsTrue (is_ge order) ↔ (first_of R (Some v) (Some w) ≡ Some w)
kept_from R total exact v w Less less = no_answer (not_kept R total v w less)
kept_from R total exact v w Equal same = yes_answer (kept_equal R exact v w same)
kept_from R total exact v w Greater more = yes_answer (ap (λ r. by_order r (Some v) (Some v) (Some w)) more)

-- ---- places

pub in_place : {A : Type 0} (x : A) (xs : List A) → IsIn x xs → (k : ℕ) × (slice_get xs k ≡ Some x)
in_place x [] i = absurd i
in_place x (y ∷ xs) (inl e) = (zero, ap Some (sym e))
in_place x (y ∷ xs) (inr i) = let s = in_place x xs i in (suc s.0, s.1)

pub place_in : {A : Type 0} (x : A) (xs : List A) (k : ℕ) → slice_get xs k ≡ Some x → IsIn x xs
place_in x [] k e = absurd (cc e)
place_in x (y ∷ xs) zero e = let same : y ≡ x = cc e in inl (sym same)
place_in x (y ∷ xs) (suc k) e = inr (place_in x xs k e)

pub place_within : {A : Type 0} (x : A) (xs : List A) (k : ℕ) → slice_get xs k ≡ Some x → k < length xs
place_within x [] k e = absurd (cc e)
place_within x (y ∷ xs) zero e = omega arith
place_within x (y ∷ xs) (suc k) e = let l = place_within x xs k e in omega arith

pub place_some : {A : Type 0} (xs : List A) (k : ℕ) → k < length xs → (x : A) × (slice_get xs k ≡ Some x)
place_some [] k l = absurd (omega (arith, l))
place_some (y ∷ xs) zero l = (y, refl)
place_some (y ∷ xs) (suc k) l = place_some xs k (omega (arith, l))

pub at_place : {K X : Type 0} (k : K) (v : X) (es : List (K × X)) → IsAt k v es → (i : ℕ) × (slice_get es i ≡ Some (k, v))
at_place k v [] at = absurd at
at_place k v (e ∷ es) (inl at) = (zero, λ i. Some (sym at.0 i, sym at.1 i))
at_place k v (e ∷ es) (inr at) = let s = at_place k v es at in (suc s.0, s.1)

pub place_at : {K X : Type 0} (k : K) (v : X) (es : List (K × X)) (i : ℕ) → slice_get es i ≡ Some (k, v) → IsAt k v es
place_at k v [] i e = absurd (cc e)
place_at k v (d ∷ es) zero e = let same : d ≡ (k, v) = cc e in inl (sym (ap (λ p. p.0) same), sym (ap (λ p. p.1) same))
place_at k v (d ∷ es) (suc i) e = inr (place_at k v es i e)

pub map_place : {A B : Type 0} (f : A → B) (xs : List A) (k : ℕ) (x : A) → slice_get xs k ≡ Some x → slice_get (map f xs) k ≡ Some (f x)
map_place f [] k x e = absurd (cc e)
map_place f (y ∷ xs) zero x e = let same : y ≡ x = cc e in ap (λ z. Some (f z)) same
map_place f (y ∷ xs) (suc k) x e = map_place f xs k x e

pub place_map : {A B : Type 0} (f : A → B) (xs : List A) (k : ℕ) (y : B) → slice_get (map f xs) k ≡ Some y → (x : A) × (slice_get xs k ≡ Some x) × (f x ≡ y)
place_map f [] k y e = absurd (cc e)
place_map f (z ∷ xs) zero y e = (z, refl, cc e)
place_map f (z ∷ xs) (suc k) y e = place_map f xs k y e

-- An element that is read at a place.
pub read_place : {A B : Type 0} (f : A → B) (items : List A) (x : A) (list : List B) (k : ℕ) → map f items ≡ list → k < length items → x ≡ get_or items k x → slice_get list k ≡ Some (f x)
read_place f [] x list k is l e = absurd (omega (arith, l))
read_place f (y ∷ items) x list zero is l e = ap (λ l. slice_get l 0) (sym is) ∙ ap (λ z. Some (f z)) (sym e)
read_place f (y ∷ items) x list (suc k) is l e = ap (λ l. slice_get l (suc k)) (sym is) ∙ read_place f items x (map f items) k refl (omega (arith, l)) e

-- A scalar is in a list exactly where its value is among the list's values.
pub in_values : (v : Scalar) (vs : List Scalar) → IsIn v vs → IsIn (value_of v) (map value_of vs)
in_values v vs i = let s = in_place v vs i in place_in (value_of v) (map value_of vs) s.0 (map_place value_of vs s.0 v s.1)

pub from_values : (v : Scalar) (vs : List Scalar) → IsIn (value_of v) (map value_of vs) → IsIn v vs
from_values v vs i =
    let s = in_place (value_of v) (map value_of vs) i in
    let t = place_map value_of vs s.0 (value_of v) s.1 in
    let same : t.0 ≡ v = sym (scalar_comes_back t.0) ∙ ap scalar_of t.2 ∙ scalar_comes_back v in
    place_in v vs s.0 (subst (λ x. slice_get vs s.0 ≡ Some x) same t.1)

-- ---- sizes

abbrev pair : ScalarValue → Value → ScalarValue × Value
pair k x = (k, x)

abbrev value_in : Option (ScalarValue × Value) → Value → Value
value_in None v = v
value_in (Some p) v = p.1

pair_value : (k key : ScalarValue) (x v : Value) → Some (pair k x) ≡ Some (pair key v) → x ≡ v
pair_value k key x v e = ap (λ o. value_in o x) e

pub entry_size : (es : Entries) (i : ℕ) (key : ScalarValue) (v : Value) → slice_get (pairs es) i ≡ Some (key, v) → value_count v ≤ value_count_of_entries es
entry_size no_entry i key v e = absurd (cc e)
entry_size (entry k x es) zero key v e = subst (λ y. value_count y ≤ value_count x + value_count_of_entries es) (pair_value k key x v e) (omega arith)
entry_size (entry k x es) (suc i) key v e = let l = entry_size es i key v e in omega arith

pub value_size : (vs : Values) (i : ℕ) (v : Value) → slice_get (values_list vs) i ≡ Some v → value_count v ≤ value_count_of_values vs
value_size no_value i v e = absurd (cc e)
value_size (value x vs) zero v e = let same : x ≡ v = cc e in subst (λ y. value_count y ≤ value_count x + value_count_of_values vs) same (omega arith)
value_size (value x vs) (suc i) v e = let l = value_size vs i v e in omega arith

-- ---- values of one shape

pub alike_of : (v w : Value) → AreOfOne v w → Alike v w
alike_of v w one = Alike-shape one.0 v w one.1 one.2

pub sets_of : (k l : ScalarKind) (vs ws : List ScalarValue) → AreOfOne (Set k vs) (Set l ws) → Proper (Set k vs) × Proper (Set l ws)
sets_of k l vs ws one = (Proper-shape one.0 (Set k vs) one.1, Proper-shape one.0 (Set l ws) one.2)

pub sets_answer : (k l : ScalarKind) (vs ws : List ScalarValue) → AreOfOne (Set k vs) (Set l ws) → k ≡ l → ((v : ScalarValue) → IsIn v vs → IsIn v ws) ↔ IsValueBelow (Set k vs) (Set l ws)
sets_answer k l vs ws one same = (
  (λ f. subst (λ j. IsValueBelow (Set k vs) (Set j ws)) same (set_below k vs ws (sets_of k l vs ws one).0 second f)),
  λ below. set_within k vs ws (sets_of k l vs ws one).0 second (subst (λ j. IsValueBelow (Set k vs) (Set j ws)) (sym same) below),
)
  where
    second : Proper (Set k ws)
    second = subst (λ j. Proper (Set j ws)) (sym same) (sets_of k l vs ws one).1

pub counters_answer : (es ds : List (List ℕ × ℕ)) → AreOfOne (Counter es) (Counter ds)
    → ((writer : List ℕ) (n : ℕ) → IsAt writer n es → (m : ℕ) × IsAt writer m ds × (n ≤ m)) ↔ IsValueBelow (Counter es) (Counter ds)
counters_answer es ds one =
    let p = Proper-shape one.0 (Counter es) one.1 in
    let q = Proper-shape one.0 (Counter ds) one.2 in
    (counter_below es ds p q, counter_within es ds p q)

pub entries_of_one : (es fs : Entries) → AreOfOne (Map es) (Map fs) → (key : ScalarValue) (v w : Value) → IsAt key v (pairs es) → IsAt key w (pairs fs) → AreOfOne v w
entries_of_one es fs (Shape.Map kind inner, p, q) key v w s t = (
  inner,
  (EachPair-at (λ k x. IsScalarOf kind k × IsOfShape inner x) (pairs es) key v p.1 s).1,
  (EachPair-at (λ k x. IsScalarOf kind k × IsOfShape inner x) (pairs fs) key w q.1 t).1,
)
entries_of_one es fs (shape, p, q) key v w s t = absurd p

pub maps_answer : (es fs : Entries) → AreOfOne (Map es) (Map fs)
    → ((key : ScalarValue) (v : Value) → IsAt key v (pairs es) → (w : Value) × IsAt key w (pairs fs) × IsValueBelow v w) ↔ IsValueBelow (Map es) (Map fs)
maps_answer es fs one =
    let p = Proper-shape one.0 (Map es) one.1 in
    let q = Proper-shape one.0 (Map fs) one.2 in
    (map_below es fs p q, map_within es fs p q)

pub bags_of_one : (vs ws : Values) → AreOfOne (Bag vs) (Bag ws) → AreOfOneBag vs ws
bags_of_one vs ws (Shape.Bag nodes, p, q) = (nodes, p, q)
bags_of_one vs ws (shape, p, q) = absurd p

-- ---- values of one bag

one_long : (nodes : Nodes) (vs ws : Values) → AreOfShapes nodes vs → AreOfShapes nodes ws → length (values_list vs) ≡ length (values_list ws)
one_long no_node no_value no_value p q = refl
one_long no_node no_value (value w ws) p q = absurd q
one_long no_node (value v vs) ws p q = absurd p
one_long (node name number shape nodes) no_value ws p q = absurd p
one_long (node name number shape nodes) (value v vs) no_value p q = absurd q
one_long (node name number shape nodes) (value v vs) (value w ws) p q = ap (λ n. suc n) (one_long nodes vs ws p.1 q.1)

pub as_long : (vs ws : Values) → AreOfOneBag vs ws → length (values_list vs) ≡ length (values_list ws)
as_long vs ws one = one_long one.0 vs ws one.1 one.2

one_each : (nodes : Nodes) (vs ws : Values) → AreOfShapes nodes vs → AreOfShapes nodes ws → (k : ℕ) (v w : Value) → slice_get (values_list vs) k ≡ Some v → slice_get (values_list ws) k ≡ Some w → AreOfOne v w
one_each no_node no_value ws p q k v w d e = absurd (cc d)
one_each no_node (value x vs) ws p q k v w d e = absurd p
one_each (node name number shape nodes) no_value ws p q k v w d e = absurd p
one_each (node name number shape nodes) (value x vs) no_value p q k v w d e = absurd q
one_each (node name number shape nodes) (value x vs) (value y ws) p q zero v w d e =
    let one : x ≡ v = cc d in
    let other : y ≡ w = cc e in
    (shape, subst (IsOfShape shape) one p.0, subst (IsOfShape shape) other q.0)
one_each (node name number shape nodes) (value x vs) (value y ws) p q (suc k) v w d e = one_each nodes vs ws p.1 q.1 k v w d e

pub values_of_one : (vs ws : Values) → AreOfOneBag vs ws → (k : ℕ) (v w : Value) → slice_get (values_list vs) k ≡ Some v → slice_get (values_list ws) k ≡ Some w → AreOfOne v w
values_of_one vs ws one = one_each one.0 vs ws one.1 one.2

first_one : (v w : Value) (vs ws : Values) → value v vs ≡ value w ws → v ≡ w
first_one v w vs ws e = cc e

others_one : (v w : Value) (vs ws : Values) → value v vs ≡ value w ws → vs ≡ ws
others_one v w vs ws e = cc e

pub values_below : (nodes : Nodes) (vs ws : Values) → AreOfShapes nodes vs → AreOfShapes nodes ws
    → ((k : ℕ) (v w : Value) → slice_get (values_list vs) k ≡ Some v → slice_get (values_list ws) k ≡ Some w → IsValueBelow v w) → join_values vs ws ≡ ws
values_below no_node no_value no_value p q f = refl
values_below no_node no_value (value w ws) p q f = absurd q
values_below no_node (value v vs) ws p q f = absurd p
values_below (node name number shape nodes) no_value ws p q f = absurd p
values_below (node name number shape nodes) (value v vs) no_value p q f = absurd q
values_below (node name number shape nodes) (value v vs) (value w ws) p q f =
    let own : join v w ≡ w = f 0 v w refl refl in
    let rest : join_values vs ws ≡ ws = values_below nodes vs ws p.1 q.1 (λ k x y d e. f (suc k) x y d e) in
    λ i. value (own i) (rest i)

below_each : (vs ws : Values) → join_values vs ws ≡ ws → (k : ℕ) (v w : Value) → slice_get (values_list vs) k ≡ Some v → slice_get (values_list ws) k ≡ Some w → IsValueBelow v w
below_each no_value ws f k v w d e = absurd (cc d)
below_each (value x vs) no_value f k v w d e = absurd (cc e)
below_each (value x vs) (value y ws) f zero v w d e =
    let one : x ≡ v = cc d in
    let other : y ≡ w = cc e in
    let below : IsValueBelow x y = first_one (join x y) y (join_values vs ws) ws f in
    subst (λ u. IsValueBelow u w) one (subst (IsValueBelow x) other below)
below_each (value x vs) (value y ws) f (suc k) v w d e = below_each vs ws (others_one (join x y) y (join_values vs ws) ws f) k v w d e

pub bags_answer : (vs ws : Values) → AreOfOneBag vs ws
    → ((k : ℕ) (v w : Value) → slice_get (values_list vs) k ≡ Some v → slice_get (values_list ws) k ≡ Some w → IsValueBelow v w) ↔ (join_values vs ws ≡ ws)
bags_answer vs ws one = (values_below one.0 vs ws one.1 one.2, below_each vs ws)

-- ---- answers

-- What holds of each element before a place, and of that there, holds of each before the next.
pub each_more : {A : Type 0} (T : A → Type 0) (xs : List A) (i : ℕ) (y : A) → ((k : ℕ) (x : A) → k < i → slice_get xs k ≡ Some x → T x) → slice_get xs i ≡ Some y → T y
    → (k : ℕ) (x : A) → k < i + 1 → slice_get xs k ≡ Some x → T x
each_more T xs i y before here t k x l e = by (cases_lt k i)
  where
    by : (k < i) ⊎ (i ≤ k) → T x
    by (inl less) = before k x less e
    by (inr more) =
        let same : k ≡ i = omega (arith, l, more) in
        let there : Some y ≡ Some x = sym here ∙ ap (slice_get xs) (sym same) ∙ e in
        let one : y ≡ x = cc there in
        subst T one t

-- What a call found at a place.
pub answered : {A B : Type 0} (f : A → B) (answer : Option A) (a : A) (xs : List B) (at : ℕ) → option_map f answer ≡ slice_get xs at → answer ≡ Some a → slice_get xs at ≡ Some (f a)
answered f answer a xs at is found = sym is ∙ ap (option_map f) found

pub iff_then : {A B C : Type 0} → A ↔ B → B ↔ C → A ↔ C
iff_then f g = ((λ a. g.0 (f.0 a)), λ c. f.1 (g.1 c))

pub counters_of : (es ds : List (List ℕ × ℕ)) → AreOfOne (Counter es) (Counter ds) → Proper (Counter ds)
counters_of es ds one = Proper-shape one.0 (Counter ds) one.2

pub is_some : {A B : Type 0} (f : A → B) (answer : Option A) (xs : List B) (at : ℕ) → option_map f answer ≡ slice_get xs at → at < length xs → IsSome answer
is_some f (Some a) xs at e l = refl
is_some f None xs at e l = let s = place_some xs at l in absurd (let bad : None ≡ Some s.0 = e ∙ s.1 in cc bad)

pub maps_of : (es fs : Entries) → AreOfOne (Map es) (Map fs) → Proper (Map fs)
maps_of es fs one = Proper-shape one.0 (Map fs) one.2
