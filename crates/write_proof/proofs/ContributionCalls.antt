-- What calls on contributions, and on joins of them, owe and answer.
use Rattle.std.proofs.Common.{◌≡◌, inl, inr, ◌↔◌, ℕ, zero, suc, ◌<◌, ◌≤◌, Bool, true, false, not, IsTrue, List, [], ◌∷◌, ◌++◌, length, take, drop, get_or, Some, Result, Ok, Err, refl, sym, ap, ◌∙◌, subst, arith}
use Rattle.std.specs.Prelude.{IfOk}
use Rattle.std.specs.List.{slice_get}
use Rattle.std.specs.Option.{option_map}
use Rattle.context_model.specs.Orders.{IsIn}
use Rattle.bag_model.specs.Joins.{Alike, join, IsValueBelow}
use Rattle.bag_model.specs.Shapes.{Shape, Nodes}
use Rattle.bag_model.specs.Slots.{SlotAt, slots_of}
use Rattle.bag_model.specs.SlotValues.{HasSlot}
use Rattle.bag_model.specs.Tables.{IsTable}
use Rattle.bag_model.specs.Values.{Value, bottom, IsOfShape}
use Rattle.bag_model.proofs.BelowLaws.{below-bottom}
use Rattle.bag_model.proofs.OfShape.{Alike-shape}
use Rattle.bag_value.specs.declared.vals.Val.{Val}
use Rattle.bag_value.specs.Vals.{plain, val_of}
use Rattle.bag_value.specs.ValLaws.{value_comes_back}
use Rattle.trace_model.specs.Contributions.{IsLeastAbove}
use Rattle.trace_model.specs.Graphs.{Graph, IsGraph, IsOfTable, IsRecorded}
use Rattle.write_proof.specs.Belows.{AreOfOne}
use Rattle.write_proof.specs.Contributions.{ContributesAt}
use Rattle.write_proof.specs.Joins.{IsJoinAt}
use Rattle.write_proof.specs.declared.verdicts.VerifyCode.TheVariants as codes
use Rattle.write_proof.specs.Entries.{Entry}
use Rattle.write_proof.specs.WholeRules.{SpeaksOf, StepContributes, IsOfSteps, Applies, used}
use Rattle.write_proof.proofs.BelowCalls.{place_some, place_within}
use Rattle.write_proof.proofs.FirstCalls.{speaks_one}
use Rattle.write_proof.proofs.Contributing.{step_one, step_shape, join_none, join_single, join_both, join_one}

some_shape : (a b : Shape) → Some a ≡ Some b → a ≡ b
some_shape a b e = cc e

-- The shape that a table tells of a slot.
pub told_shape : (table : Nodes) (slot : ℕ) (at : SlotAt) (shape : Shape) → HasSlot table slot at → Some shape ≡ option_map (λ (found : SlotAt). found.shape) (slice_get (slots_of table) slot) → shape ≡ at.shape
told_shape table slot at shape there is = some_shape shape at.shape (is ∙ ap (option_map (λ (found : SlotAt). found.shape)) there)

-- ---- what a step contributes

-- What a step contributes, by another name.
pub same_contributes : (table : Nodes) (graph : Graph) (slot n : ℕ) (x y : Shape → Value) → ((shape : Shape) → x shape ≡ y shape) → ContributesAt table graph slot n x → ContributesAt table graph slot n y
same_contributes table graph slot n x y same c = λ at there. subst (StepContributes graph slot at n) (same at.shape) (c at there)

pub ok_so : {A E : Type 0} (P Q : A → Type 0) (r : Result A E) → ((a : A) → P a → Q a) → IfOk r P → IfOk r Q
ok_so P Q (Ok a) f p = f a p
ok_so P Q (Err e) f p = tt

-- ---- joins

module _ (table : Nodes) (graph : Graph) (slot : ℕ) (is_table : IsTable table) (sound : IsGraph graph) (fits : IsOfTable table graph) where
  recorded : IsRecorded table graph
  recorded = record { table = is_table; sound = sound; fits = fits }

  pub none_joined : (shape : Shape) (v : Value) → Some shape ≡ option_map (λ (found : SlotAt). found.shape) (slice_get (slots_of table) slot) → v ≡ bottom shape → IsJoinAt table graph slot [] v
  none_joined shape v is same = λ at there.
      subst (IsLeastAbove at.shape (IsOfSteps graph slot at [])) (sym (same ∙ ap bottom (told_shape table slot at shape there is))) (join_none table slot at there graph recorded)

  pub one_joined : (w : ℕ) (own : Value) → ContributesAt table graph slot w (λ _. own) → IsJoinAt table graph slot (w ∷ []) own
  one_joined w own c = λ at there. join_single table slot at there graph recorded w own (c at there)

  pub both_alike : slot < length (slots_of table) → (steps others : List ℕ) (a b : Value) → IsJoinAt table graph slot steps a → IsJoinAt table graph slot others b → Alike a b
  both_alike within steps others a b p q =
      let s = place_some (slots_of table) slot within in
      Alike-shape (s.0).shape a b (p s.0 s.1).of_shape (q s.0 s.1).of_shape

  pub both_joined : (steps front back : List ℕ) (a b j : Val) → front ++ back ≡ steps → j ≡ val_of (join (plain a) (plain b)) → IsJoinAt table graph slot front (plain a) → IsJoinAt table graph slot back (plain b)
      → IsJoinAt table graph slot steps (plain j)
  both_joined steps front back a b j whole is p q = λ at there.
      subst (λ l. IsLeastAbove at.shape (IsOfSteps graph slot at l) (plain j)) whole
      (subst (IsLeastAbove at.shape (IsOfSteps graph slot at (front ++ back))) (sym (ap plain is ∙ value_comes_back (join (plain a) (plain b))))
      (join_both table slot at there graph recorded front back (plain a) (plain b) (p at there) (q at there)))

  -- ---- more than a join

  -- A step contributes to the slot what the value doesn't say.
  abbrev pub More : SlotAt → ℕ → Value → Type 0
  More at n v = (x : Value) × StepContributes graph slot at n x × (IsValueBelow x v → ⊥)

  pub one_shape : slot < length (slots_of table) → (n : ℕ) (own v : Value) → ((at : SlotAt) → HasSlot table slot at → IsOfShape at.shape v) → ContributesAt table graph slot n (λ _. own) → AreOfOne own v
  one_shape within n own v shape c =
      let s = place_some (slots_of table) slot within in
      ((s.0).shape, step_shape table slot s.0 s.1 graph recorded n own (c s.0 s.1), shape s.0 s.1)

  pub more_or_not : (n : ℕ) (own v : Value) → ContributesAt table graph slot n (λ _. own) → (at : SlotAt) → HasSlot table slot at → (More at n v → IsValueBelow own v → ⊥)
  more_or_not n own v c at there m below = m.2 (subst (λ x. IsValueBelow x v) (step_one table slot at there graph n own m.0 (c at there) m.1) below)

  pub no_more : (n : ℕ) (v : Value) → ((at : SlotAt) → HasSlot table slot at → IsOfShape at.shape v) → ContributesAt table graph slot n bottom → (at : SlotAt) → HasSlot table slot at → More at n v → ⊥
  no_more n v shape c at there m =
      m.2 (subst (λ x. IsValueBelow x v) (step_one table slot at there graph n (bottom at.shape) m.0 (c at there) m.1) (below-bottom at.shape v (shape at there)))

  -- Whether a step contributes more is decided by the comparison with what it contributes.
  pub more_answer : (n : ℕ) (own v : Value) → ContributesAt table graph slot n (λ _. own) → (below : Bool) → IsTrue below ↔ IsValueBelow own v → (at : SlotAt) → HasSlot table slot at → IsTrue (not below) ↔ More at n v
  more_answer n own v c true told at there = ((λ e. absurd (cc e)), λ m. absurd (more_or_not n own v c at there m (told.0 refl)))
  more_answer n own v c false told at there = ((λ e. (own, c at there, λ b. let bad : false ≡ true = told.1 b in cc bad)), λ m. refl)

  -- An entry that speaks of a step applies too much where that step contributes more.
  pub too_much_told : (said : List Entry) (entry : Entry) (step : ℕ) (v : Value) → SpeaksOf entry step → IsJoinAt table graph slot (used said) v → (more : Bool) → ((at : SlotAt) → HasSlot table slot at → IsTrue more ↔ More at step v)
      → (at : SlotAt) → HasSlot table slot at → IsTrue more ↔ Applies graph slot at said codes.TooMuch entry
  too_much_told said entry step v speaks join more told at there = (
    (λ t. let m = (told at there).0 t in (step, m.0, v, speaks, m.1, join at there, m.2)),
    λ a. (told at there).1 (
      a.1,
      subst (λ w. StepContributes graph slot at w a.1) (speaks_one entry a.0 step a.3 speaks) a.4,
      λ below. a.6 (subst (IsValueBelow a.1) (sym (join_one table slot at there graph recorded (used said) a.2 v a.5 (join at there))) below),
    ),
  )

  pub none_too_much : (said : List Entry) (entry : Entry) → ((step : ℕ) → SpeaksOf entry step → ⊥) → (at : SlotAt) → IsTrue false ↔ Applies graph slot at said codes.TooMuch entry
  none_too_much said entry none at = ((λ e. absurd (cc e)), λ a. absurd (none a.0 a.3))

  pub late_too_much : (said : List Entry) (entry : Entry) (step : ℕ) → SpeaksOf entry step → length graph.steps ≤ step → (at : SlotAt) → IsTrue false ↔ Applies graph slot at said codes.TooMuch entry
  late_too_much said entry step speaks late at = (
    (λ e. absurd (cc e)),
    λ a.
        let same : a.0 ≡ step = speaks_one entry a.0 step a.3 speaks in
        let l = place_within (a.4).0 graph.steps a.0 (a.4).1 in
        absurd (omega (arith, same, l, late)),
  )

-- ---- lists of steps

pub no_steps : (xs : List ℕ) → length xs < 1 → xs ≡ []
no_steps [] l = refl
no_steps (x ∷ xs) l = absurd (omega (arith, l))

pub one_step_alone : (xs : List ℕ) → 1 ≤ length xs → length xs < 2 → xs ≡ get_or xs 0 0 ∷ []
one_step_alone [] some few = absurd (omega (arith, some))
one_step_alone (x ∷ []) some few = refl
one_step_alone (x ∷ y ∷ xs) some few = absurd (omega (arith, few))

pub first_in : (xs : List ℕ) → 1 ≤ length xs → IsIn (get_or xs 0 0) xs
first_in [] some = absurd (omega (arith, some))
first_in (x ∷ xs) some = inl refl

pub front_in : (n : ℕ) (xs : List ℕ) (w : ℕ) → IsIn w (take n xs) → IsIn w xs
front_in zero xs w i = absurd i
front_in (suc n) [] w i = absurd i
front_in (suc n) (x ∷ xs) w (inl e) = inl e
front_in (suc n) (x ∷ xs) w (inr i) = inr (front_in n xs w i)

pub back_in : (n : ℕ) (xs : List ℕ) (w : ℕ) → IsIn w (drop n xs) → IsIn w xs
back_in zero xs w i = i
back_in (suc n) [] w i = absurd i
back_in (suc n) (x ∷ xs) w i = inr (back_in n xs w i)

pub both_parts : (n : ℕ) (xs : List ℕ) → take n xs ++ drop n xs ≡ xs
both_parts zero xs = refl
both_parts (suc n) [] = refl
both_parts (suc n) (x ∷ xs) = ap (λ ys. x ∷ ys) (both_parts n xs)
