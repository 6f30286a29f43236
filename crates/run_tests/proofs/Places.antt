-- Where the lists of a step's parents are.
use Rattle.std.proofs.Common.{◌≡◌, inl, inr, ℕ, suc, ◌<◌, List, [], ◌∷◌, length, get_or, Some, sym, ap, ◌∙◌, subst, arith}
use Rattle.trace_model.specs.Graphs.{Step, Graph, parents_of, HasStep}
use Rattle.trace_model.specs.Runs.{Lists}
use Rattle.step_rules.specs.Parents.{AreWithinLists, ArePlacesOf}

-- What was seen of each place holds of all.
pub all_within : (lists : Lists) (places : List ℕ) → ((k : ℕ) → k < length places → get_or places k 0 < length lists) → AreWithinLists lists places
all_within lists [] each place i = absurd i
all_within lists (first ∷ rest) each place (inl e) = subst (λ n. n < length lists) (sym e) (each 0 (omega arith))
all_within lists (first ∷ rest) each place (inr i) = all_within lists rest (λ k l. each (suc k) (omega (arith, l))) place i

one_step : (a b : Step) → Some a ≡ Some b → a ≡ b
one_step a b e = cc

-- As many places as the step there has parents are places of its parents.
pub places_of : (graph : Graph) (n : ℕ) (step : Step) (parents places : List ℕ) (lists : Lists) → HasStep graph n step → parents ≡ parents_of step.act
    → length places ≡ length parents → AreWithinLists lists places → (own : Step) → HasStep graph n own → ArePlacesOf (parents_of own.act) lists places
places_of graph n step parents places lists there are many within own has =
    let one : step ≡ own = one_step step own (sym there ∙ has) in
    record {
      as_many = many ∙ ap length are ∙ ap (λ (s : Step). length (parents_of s.act)) one;
      within = within;
    }
