-- Lists that are put to steps, from the last to the first.
use Rattle.std.proofs.Common.{◌≡◌, ◌↔◌, ◌⊎◌, inl, inr, ℕ, suc, ◌+◌, ◌<◌, ◌≤◌, Option, Some, None, List, [], ◌∷◌, ◌++◌, length, get_or, set, take, refl, sym, ap, ◌∙◌, subst, length-append, arith}
use Rattle.std.proofs.lemmas.Bool.{cases_eq, cases_lt}
use Rattle.std.proofs.lemmas.List.{get_or-set_same, get_or-set_other, length-set, get_or_at, get_or-take, take_at, take-take}
use Rattle.std.specs.Prelude.{IsSome}
use Rattle.context_model.specs.Atoms.{Atom}
use Rattle.context_model.specs.Orders.{IsIn}
use Rattle.trace_model.specs.Runs.{Lists, list_at}
use Rattle.recorded_graph.proofs.Parents.{in_at}
use Rattle.par_ranks.specs.Rows.{ArePut}

-- A step is at one of its places.
pub place_in : (xs : List ℕ) (x : ℕ) → IsIn x xs → (k : ℕ) × (k < length xs) × (get_or xs k 0 ≡ x)
place_in [] x none = absurd none
place_in (y ∷ xs) x (inl e) = (0, omega arith, sym e)
place_in (y ∷ xs) x (inr i) = let there = place_in xs x i in (suc there.0, let l = there.1 in omega (arith, l), there.2)

-- The lists from place m on were put to their steps.
pub record ArePutFrom (m : ℕ) (steps : List ℕ) (made old new : Lists) : Type 0 where
  pub as_many : length new ≡ length old
  pub put : (k : ℕ) → m ≤ k → k < length steps
      → (j : ℕ) × (j < length steps) × (get_or steps j 0 ≡ get_or steps k 0) × (list_at new (get_or steps k 0) ≡ list_at made j)
  pub kept : (n : ℕ) → ¬ (IsIn n steps) → list_at new n ≡ list_at old n

-- At first none was.
pub none_put : (steps : List ℕ) (made old : Lists) → length made ≡ length steps → ArePutFrom (length made) steps made old old
none_put steps made old many = record { as_many = refl; put = λ k from upto. absurd (omega (arith, many, from, upto)); kept = λ n out. refl }

-- One list more, before the others.
pub one_put : (m : ℕ) (steps : List ℕ) (made old lists : Lists) (step : ℕ) (list : List Atom) → m < length steps → length lists ≡ length old → step ≡ get_or steps m 0 → step < length lists
    → list ≡ list_at made m → ArePutFrom (m + 1) steps made old lists → ArePutFrom m steps made old (set lists step list)
one_put m steps made old lists step list here many is within own are = record {
  as_many = length-set lists step list ∙ are.as_many;
  put = λ k from upto. at k from upto (cases_eq (get_or steps k 0) step);
  kept = λ n out. get_or-set_other lists step n list [] (λ e. out (subst (λ (p : ℕ). IsIn p steps) (sym is ∙ sym e) (in_at steps m here))) ∙ are.kept n out;
}
  where
    at : (k : ℕ) → m ≤ k → k < length steps → (get_or steps k 0 ≡ step) ⊎ (get_or steps k 0 ≡ step → ⊥)
        → (j : ℕ) × (j < length steps) × (get_or steps j 0 ≡ get_or steps k 0) × (list_at (set lists step list) (get_or steps k 0) ≡ list_at made j)
    at k from upto (inl e) =
        (m, here, sym is ∙ sym e, ap (list_at (set lists step list)) e ∙ get_or-set_same lists step list [] within ∙ own)
    at k from upto (inr differs) =
        let later : m + 1 ≤ k = by (cases_eq m k) in
        let old_one = are.put k later upto in
        (old_one.0, old_one.1, old_one.2, get_or-set_other lists step (get_or steps k 0) list [] differs ∙ old_one.3)
      where
        by : (m ≡ k) ⊎ (m ≡ k → ⊥) → m + 1 ≤ k
        by (inl same) = absurd (differs (ap (λ (p : ℕ). get_or steps p 0) (sym same) ∙ sym is))
        by (inr other) = omega (arith, from, other)

-- In the end all are put.
pub all_put : (steps : List ℕ) (made old new : Lists) → ArePutFrom 0 steps made old new → ArePut steps made old new
all_put steps made old new are = record {
  as_many = are.as_many;
  put = λ n i.
      let there = place_in steps n i in
      let own = are.put there.0 (omega arith) there.1 in
      (own.0, own.1, own.2 ∙ there.2, subst (λ (p : ℕ). list_at new p ≡ list_at made own.0) there.2 own.3);
  kept = are.kept;
}

-- What is left of lists when the last of their prefix is taken.
pub record IsPopped (made all rest : Lists) (list : List Atom) : Type 0 where
  pub one_less : length made ≡ length rest + 1
  pub few : length rest ≤ length all
  pub front : rest ≡ take (length rest) all
  pub own : list ≡ list_at all (length rest)

pub popped : (made all rest : Lists) (list : List Atom) → length made ≤ length all → made ≡ take (length made) all → made ≡ rest ++ list ∷ [] → IsPopped made all rest list
popped made all rest list few front is = record {
  one_less = less;
  few = omega (arith, less, few);
  front = sym (take_at rest (list ∷ []) (length rest) refl) ∙ ap (take (length rest)) (sym is ∙ front) ∙ take-take (length rest) (length made) all (omega (arith, less));
  own = sym (get_or_at rest list [] [] (length rest) refl) ∙ ap (λ (ls : Lists). list_at ls (length rest)) (sym is ∙ front) ∙ get_or-take (length made) all (length rest) [] (omega (arith, less));
}
  where
    less : length made ≡ length rest + 1
    less = ap length is ∙ length-append rest (list ∷ [])

-- Where nothing could be taken, nothing was there.
pub emptied : {A : Type 0} (taken : Option A) (count : ℕ) → taken ≡ None → (IsSome taken ↔ (0 < count)) → count ≡ 0
emptied (Some x) count is there = cc
emptied None count is there = by (cases_lt 0 count)
  where
    by : (0 < count) ⊎ (count ≤ 0) → count ≡ 0
    by (inl l) = absurd (cc (there.1 l))
    by (inr l) = omega (arith, l)
