-- What it takes to be a child of a step.
use Rattle.std.proofs.Common.{◌≡◌, ◌↔◌, inl, inr, ℕ, zero, suc, ◌<◌, Bool, eqb, eq-eqb, List, [], ◌∷◌, length, get_or, Some, IsTrue, refl, sym, ap, ◌∙◌, subst, arith}
use Rattle.std.specs.Option.{option_map}
use Rattle.std.proofs.lemmas.Option.{slice_get-map, slice_get_read}
use Rattle.std.proofs.lemmas.Bool.Decides.{nat_tests}
use Rattle.context_model.specs.Orders.{IsIn}
use Rattle.trace_model.specs.Graphs as model
use Rattle.trace_model.specs.Graphs.{Graph, HasStep, StaysAt}
use Rattle.recorded_graph.specs.declared.steps.Service.{Service}
use Rattle.recorded_graph.specs.declared.steps.Step.{Step}
use Rattle.recorded_graph.specs.Plain.{step_of, plain_graph}
use Rattle.recorded_graph.specs.Graphs.{MayHaveParent}

-- The element at a place is the graph's step there.
pub step_at : (services : List Service) (steps : List Step) (shows : List ℕ) (n : ℕ) (step : Step) → n < length steps → step ≡ get_or steps n step → HasStep (plain_graph services steps shows) n (step_of step)
step_at services steps shows n step l e = slice_get-map step_of steps n ∙ ap (option_map step_of) (slice_get_read steps (length steps) n step refl l e)

one_step : (a b : model.Step) → Some a ≡ Some b → a ≡ b
one_step a b e = cc

equal_from : (a b : ℕ) → IsTrue (eqb a b) → a ≡ b
equal_from a b t = grind (arith, nat_tests)

-- A step that has to stay may be a child of a step at its service, and of no other.
pub stays_at : (graph : Graph) (step own : model.Step) (parent : ℕ) (stays : Bool) → IsTrue stays → parent < length graph.steps → HasStep graph parent own
    → ((old new : ℕ) → StaysAt step.act old new ↔ (IsTrue stays → new ≡ old))
    → IsTrue (eqb own.service step.service) ↔ MayHaveParent graph step parent
stays_at graph step own parent stays t l has means = (
  (λ same. record {
    earlier = l;
    stays = λ other e.
        let one : own ≡ other = one_step own other (sym has ∙ e) in
        (means other.service step.service).1 (λ _. sym (equal_from own.service step.service same) ∙ ap (λ (s : model.Step). s.service) one);
  }),
  (λ may. eq-eqb own.service step.service (sym ((means own.service step.service).0 (may.stays own has) t))),
)

-- ---- all parents

pub in_at : (xs : List ℕ) (k : ℕ) → k < length xs → IsIn (get_or xs k 0) xs
in_at [] k l = absurd (omega (arith, l))
in_at (x ∷ xs) zero l = inl refl
in_at (x ∷ xs) (suc k) l = inr (in_at xs k (omega (arith, l)))

pub at_in : (P : ℕ → Type 0) (xs : List ℕ) → ((k : ℕ) → k < length xs → P (get_or xs k 0)) → (x : ℕ) → IsIn x xs → P x
at_in P [] f x none = absurd none
at_in P (y ∷ xs) f x (inl e) = subst P (sym e) (f 0 (omega arith))
at_in P (y ∷ xs) f x (inr i) = at_in P xs (λ k l. f (suc k) (omega (arith, l))) x i
