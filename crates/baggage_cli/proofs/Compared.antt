-- Two tables that are taken one after the other.
use Rattle.std.proofs.Common.{◌≡◌, inr, ℕ, List, Result, Ok, Err, ap}
use Rattle.std.specs.Global.{Vec}
use Rattle.std.specs.Result.{IsErrAnd}
use Rattle.bag_model.specs.Shapes.{Nodes}
use Rattle.bdl_load.specs.Loading.{Holding}
use Rattle.baggage_cli.specs.declared.refusals.Notice.TheVariants.{Memory}
use Rattle.baggage_cli.specs.declared.refusals.Refusal.{Refusal}
use Rattle.baggage_cli.specs.declared.refusals.Refusal.TheVariants.{Plain}
use Rattle.baggage_cli.specs.Outcomes.{outcome_of, Makes}
use Rattle.baggage_cli.specs.Scene.{Change, Halfway, until, since}
use Rattle.baggage_cli.specs.Tables.{Origin, Obtains}
use Rattle.baggage_cli.specs.Work.{TakesTwo}
use Rattle.baggage_cli.proofs.Obtained.{unobtained}

module _ (old new : Origin) (gives : Nodes → Nodes → List ℕ → Type 0) (library : Change Holding) (requests : Change (List (List ℕ))) (half : Halfway) (before : Nodes)
    (taken : Obtains old (until half.files half.faults library) (until half.asked half.faults requests) (Ok before)) where
  -- Where the second is refused, that is the outcome.
  pub second_unobtained : (refusal : Refusal) (result : Result (Vec ℕ) Refusal) → IsErrAnd result (λ other. other ≡ refusal)
      → Obtains new (since half.files half.faults library) (since half.asked half.faults requests) (Err refusal) → TakesTwo old new gives library requests (outcome_of result)
  second_unobtained refusal result is obtains =
      inr (half, before, taken, unobtained (Unit {0}) (λ after. Makes (gives before after)) new (since half.files half.faults library) (since half.asked half.faults requests) refusal result is obtains tt)

  -- Otherwise both give the outcome.
  pub compared : (after : Nodes) (result : Result (Vec ℕ) Refusal)
      → Obtains new (since half.files half.faults library) (since half.asked half.faults requests) (Ok after) → Makes (gives before after) (outcome_of result)
      → TakesTwo old new gives library requests (outcome_of result)
  compared after result obtains compares = inr (half, before, taken, inr (after, obtains, compares))

-- Memory ran out.
pub memory_came : (result : Result (Vec ℕ) Refusal) → IsErrAnd result (λ other. other ≡ Plain Memory) → outcome_of result ≡ Err (Plain Memory)
memory_came (Ok output) is = absurd is
memory_came (Err refusal) is = ap Err is
