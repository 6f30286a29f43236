-- Walks over the parts of a value, in terms of the parts that are left.
use Rattle.std.proofs.Common.{◌≡◌, ◌↔◌, ℕ, zero, suc, ◌+◌, ◌<◌, List, [], ◌∷◌, length, drop, map, Some, None, IsSome, Option, sym, ap, subst, ◌∙◌, add-one, rules, arith}
use Rattle.std.specs.List.{AllByRecursion, slice_get}
use Rattle.std.specs.Option.{option_map}
use Rattle.context_model.specs.KeyedMerge.{EachPair}
use Rattle.bag_model.specs.Scalars.{ScalarKind, ScalarValue}
use Rattle.bag_model.specs.Shapes.{Shape, Nodes, Field, fields, no_node, node}
use Rattle.bag_model.specs.Values.{Value, Values, no_value, value, values_list}
use Rattle.bag_codec.specs.Encodable.{FitsAtom, IsEncodable, AreEncodable}

-- A key with its value of such a map can be encoded.
abbrev pub IsEntry : ScalarKind → Shape → ScalarValue → Value → Type 0
IsEntry kind shape key v = FitsAtom kind key × IsEncodable shape v

-- There is a value for each field, which can be encoded there.
abbrev pub AreEach : List Field → List Value → Type 0
AreEach [] [] = Unit {0}
AreEach [] (v ∷ vs) = ⊥
AreEach (f ∷ fs) [] = ⊥
AreEach (f ∷ fs) (v ∷ vs) = IsEncodable f.shape v × AreEach fs vs

-- The element at a place and those after it.
pub dropped : {X : Type 0} (xs : List X) (i : ℕ) (x : X) → slice_get xs i ≡ Some x → drop i xs ≡ x ∷ drop (i + 1) xs
dropped {X} xs i x at = by xs i at ∙ ap (λ n. x ∷ drop n xs) (sym (add-one i))
  where
    by : (xs : List X) (i : ℕ) → slice_get xs i ≡ Some x → drop i xs ≡ x ∷ drop (suc i) xs
    by [] i at = absurd (cc at)
    by (y ∷ ys) zero at = (let same : y ≡ x = cc at in ap (λ z. z ∷ ys) same)
    by (y ∷ ys) (suc i) at = by ys i at

pub each_whole : (nodes : Nodes) (vs : Values) → AreEncodable nodes vs ↔ AreEach (fields nodes) (values_list vs)
each_whole no_node no_value = ((λ e. e), λ e. e)
each_whole no_node (value v vs) = ((λ e. e), λ e. e)
each_whole (node name number shape nodes) no_value = ((λ e. e), λ e. e)
each_whole (node name number shape nodes) (value v vs) =
    let rest = each_whole nodes vs in ((λ e. (e.0, rest.0 e.1)), λ e. (e.0, rest.1 e.1))

-- A value for each field.
pub each_length : (fs : List Field) (vs : List Value) → AreEach fs vs → length fs ≡ length vs
each_length [] [] e = search rules
each_length [] (v ∷ vs) e = absurd e
each_length (f ∷ fs) [] e = absurd e
each_length (f ∷ fs) (v ∷ vs) e = let more = each_length fs vs e.1 in omega (arith, more)

-- What is the same as another, and that as a third.
pub both_ways : {A B C : Type 0} → A ↔ B → B ↔ C → A ↔ C
both_ways p q = ((λ a. q.0 (p.0 a)), λ c. p.1 (q.1 c))

module _ {X K : Type 0} (P : K → Type 0) (f : X → K) where
  pub all_at : (xs : List X) (i : ℕ) (x : X) → AllByRecursion P (map f xs) → slice_get xs i ≡ Some x → P (f x)
  all_at [] i x all at = absurd (cc at)
  all_at (y ∷ ys) zero x all at = (let same : y ≡ x = cc at in subst (λ z. P (f z)) same all.0)
  all_at (y ∷ ys) (suc i) x all at = all_at ys i x all.1 at

  pub all_turn : (xs : List X) (i : ℕ) (x : X) → P (f x) → slice_get xs i ≡ Some x
      → AllByRecursion P (map f (drop i xs)) ↔ AllByRecursion P (map f (drop (i + 1) xs))
  all_turn xs i x own at =
      let e = dropped xs i x at in
      ((λ all. (subst (λ ys. AllByRecursion P (map f ys)) e all).1), λ all. subst (λ ys. AllByRecursion P (map f ys)) (sym e) (own, all))

module _ {K X : Type 0} (P : K → X → Type 0) where
  pub pair_at : (es : List (K × X)) (i : ℕ) (e : K × X) → EachPair P es → slice_get es i ≡ Some e → P e.0 e.1
  pair_at [] i e each at = absurd (cc at)
  pair_at (d ∷ ds) zero e each at = (let same : d ≡ e = cc at in subst (λ (z : K × X). P z.0 z.1) same each.0)
  pair_at (d ∷ ds) (suc i) e each at = pair_at ds i e each.1 at

  pub pair_turn : (es : List (K × X)) (i : ℕ) (e : K × X) → P e.0 e.1 → slice_get es i ≡ Some e
      → EachPair P (drop i es) ↔ EachPair P (drop (i + 1) es)
  pair_turn es i e own at =
      let same = dropped es i e at in
      ((λ each. (subst (EachPair P) same each).1), λ each. subst (EachPair P) (sym same) (own, each))

module _ (fs : List Field) (vs : List Value) (i : ℕ) (f : Field) (v : Value) (field_at : slice_get fs i ≡ Some f) (value_at : slice_get vs i ≡ Some v) where
  step : AreEach (drop i fs) (drop i vs) ↔ (IsEncodable f.shape v × AreEach (drop (i + 1) fs) (drop (i + 1) vs))
  step =
      let a = dropped fs i f field_at in
      let b = dropped vs i v value_at in (
        (λ e. subst (λ gs. AreEach gs (v ∷ drop (i + 1) vs)) a (subst (AreEach (drop i fs)) b e)),
        λ e. subst (λ gs. AreEach gs (drop i vs)) (sym a) (subst (AreEach (f ∷ drop (i + 1) fs)) (sym b) e),
      )

  pub each_at : AreEach (drop i fs) (drop i vs) → IsEncodable f.shape v
  each_at e = (step.0 e).0

  pub each_turn : IsEncodable f.shape v → AreEach (drop i fs) (drop i vs) ↔ AreEach (drop (i + 1) fs) (drop (i + 1) vs)
  each_turn own = ((λ e. (step.0 e).1), λ e. step.1 (own, e))

module _ {A B : Type 0} (f : A → B) where
  none_there : (xs : List B) (i : ℕ) → None ≡ slice_get xs i → i < length xs → ⊥
  none_there [] i e l = omega (arith, l)
  none_there (x ∷ xs) zero e l = cc
  none_there (x ∷ xs) (suc i) e l = none_there xs i e (omega (arith, l))

  -- There is an element at each place below the length.
  pub some_there : (o : Option A) (xs : List B) (i : ℕ) → option_map f o ≡ slice_get xs i → i < length xs → IsSome o
  some_there None xs i e l = absurd (none_there xs i e l)
  some_there (Some x) xs i e l = search rules
