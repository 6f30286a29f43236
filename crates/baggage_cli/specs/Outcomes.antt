-- What the work of a command comes to: an output, or why there is none.
use Rattle.std.specs.Prelude.{◌≡◌, ◌⊎◌, ℕ, List, Result, Ok, Err}
use Rattle.std.specs.Global.{Vec}
use Rattle.bdl_load.specs.Loading.{Holding}
use Rattle.baggage_cli.specs.declared.refusals.Notice.TheVariants.{Memory}
use Rattle.baggage_cli.specs.declared.refusals.Refusal.{Refusal}
use Rattle.baggage_cli.specs.declared.refusals.Refusal.TheVariants.{Plain}
use Rattle.baggage_cli.specs.Scene.{Change, Halfway, until, since}

-- The output, or why there is none.
abbrev pub Outcome : Type 0
Outcome = Result (List ℕ) Refusal

-- The outcome that a call answers.
abbrev pub outcome_of : Result (Vec ℕ) Refusal → Outcome
outcome_of (Ok output) = Ok output.items
outcome_of (Err refusal) = Err refusal

-- The outcome is that memory is out, or this holds of it.
abbrev pub OrMemory : (Outcome → Type 0) → Outcome → Type 0
OrMemory gives outcome = (outcome ≡ Err (Plain Memory)) ⊎ gives outcome

-- The outcome is this output, or that memory is out.
abbrev pub Builds : List ℕ → Outcome → Type 0
Builds output = OrMemory (λ outcome. outcome ≡ Ok output)

-- The outcome is an output of which this holds, or that memory is out.
abbrev pub Makes : (List ℕ → Type 0) → Outcome → Type 0
Makes made = OrMemory (λ outcome. (output : List ℕ) × made output × (outcome ≡ Ok output))

-- One part of the work comes first. Where it is refused, that is the outcome, and the rest isn't
-- begun; what it gives otherwise decides the rest.
abbrev pub Then : {A : Type 0} → (Result A Refusal → Type 0) → Type 0 → (A → Outcome → Type 0)
    → Outcome → Type 0
Then {A} first unbegun rest outcome =
    ((refusal : Refusal) × first (Err refusal) × unbegun × (outcome ≡ Err refusal))
    ⊎ ((value : A) × first (Ok value) × rest value outcome)

-- What may come of a use of the library, with its files and the names that it was asked for, before
-- and after.
abbrev pub Use : Type 0 → Type 1
Use A = Change Holding → Change (List (List ℕ)) → Result A Refusal → Type 0

-- One use of the library comes first. Where it is refused, that is the outcome, and the rest isn't
-- begun; what it gives otherwise decides the rest, which uses the library as the first use left it.
abbrev pub ThenUses : {A B : Type 0} → Use A → Type 0 → (A → Use B) → Use B
ThenUses {A} {B} first unbegun rest library requests outcome =
    ((refusal : Refusal) × first library requests (Err refusal) × unbegun × (outcome ≡ Err refusal))
    ⊎ ((half : Halfway) × (value : A)
    × first (until half.files half.faults library) (until half.asked half.faults requests)
    (Ok value)
    × rest value (since half.files half.faults library)
    (since half.asked half.faults requests) outcome)
