-- What merges and cuts are in the model of steps, at a service that knows nothing.
use Rattle.std.proofs.Common.{◌≡◌, ℕ, List, [], ◌∷◌, refl, sym, subst}
use Rattle.context_model.specs.Atoms.{Atom}
use Rattle.context_model.specs.Merged.{IsMerged}
use Rattle.context_model.specs.WellFormed.{IsWellFormed}
use Rattle.context_model.proofs.MergedLaws.{merges_few, has_one_merge}
use Rattle.bag_model.specs.NormalForm.{IsNormalOf}
use Rattle.bag_model.specs.Shapes.{Nodes}
use Rattle.bag_model.specs.Views.{Nothing}
use Rattle.step_calls.specs.Laws.{MergesGiveSteps}
use Rattle.step_calls.proofs.StepLaws.{without_none}

-- For a service that knows nothing each list is its own normal form.
normal_itself : (nodes : Nodes) (list : List Atom) → IsNormalOf nodes Nothing list list
normal_itself nodes list = record {
  gone = [];
  rises = tt;
  exact = λ place. ((λ i. absurd i), λ s. absurd (s.1).knows);
  left = sym (without_none 0 list);
}

normal_alone : (nodes : Nodes) (before list : List Atom) → IsMerged (before ∷ []) list → IsWellFormed before → IsNormalOf nodes Nothing before list
normal_alone nodes before list m w =
    let same : before ≡ list = has_one_merge (before ∷ []) before list ((merges_few).one before w) m in
    subst (λ (l : List Atom). IsNormalOf nodes Nothing before l) same (normal_itself nodes before)

pub merges_give_steps : MergesGiveSteps
merges_give_steps = record {
  receive = λ nodes form received list parents m w. normal_alone nodes received list m w;
  forward = λ nodes form before list parent m w. normal_alone nodes before list m w;
  join = λ nodes form named parents list m. record { merged = list; merge = m; normal = normal_itself nodes list };
  trim = λ nodes form list parent budget. refl;
}
