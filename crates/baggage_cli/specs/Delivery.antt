-- How an outcome is delivered.
use Rattle.std.specs.Prelude.{◌≡◌, ◌⊎◌, ℕ, List, Ok, Err}
use Rattle.baggage_cli.specs.declared.refusals.Notice.{Notice}
use Rattle.baggage_cli.specs.declared.refusals.Notice.TheVariants.{SinkFailed, Memory}
use Rattle.baggage_cli.specs.declared.refusals.Refusal.{Refusal}
use Rattle.baggage_cli.specs.declared.refusals.Refusal.TheVariants.{Input, Definition, Table, Plain}
use Rattle.baggage_cli.specs.Outcomes.{Outcome}
use Rattle.baggage_cli.specs.Refusals.{status_of, refusal_line, notice_status, notice_line}
use Rattle.baggage_cli.specs.Scene.{Change, IsSame, TakesWhole, TakesPart}

-- A line with its status: it was written to the sink of errors, or that failed.
abbrev pub TellsLine : ℕ → List ℕ → Change (List ℕ) → ℕ → Type 0
TellsLine status line errs answer =
    ((answer ≡ status) × TakesWhole errs line)
    ⊎ ((answer ≡ notice_status SinkFailed) × TakesPart errs line)

-- A notice with its status.
abbrev pub Notifies : Notice → Change (List ℕ) → ℕ → Type 0
Notifies notice = TellsLine (notice_status notice) (notice_line notice)

-- A refusal with its status. Where its line takes memory, memory may run out for it, which is
-- reported instead.
abbrev pub Refuses : Refusal → Change (List ℕ) → ℕ → Type 0
Refuses (Plain notice) errs answer = Notifies notice errs answer
Refuses (Input line fault) errs answer =
    TellsLine (status_of (Input line fault)) (refusal_line (Input line fault)) errs answer
    ⊎ Notifies Memory errs answer
Refuses (Definition file line column code) errs answer =
    TellsLine (status_of (Definition file line column code))
    (refusal_line (Definition file line column code)) errs answer
    ⊎ Notifies Memory errs answer
Refuses (Table file line code) errs answer =
    TellsLine (status_of (Table file line code)) (refusal_line (Table file line code)) errs answer
    ⊎ Notifies Memory errs answer

-- An output is written whole and nothing is said, or a part of it is written and the sink's failure
-- is said; after a refusal nothing is written and the refusal is said.
abbrev pub Delivers : Outcome → Change (List ℕ) → Change (List ℕ) → ℕ → Type 0
Delivers (Ok output) out errs answer =
    ((answer ≡ 0) × TakesWhole out output × IsSame errs)
    ⊎ ((answer ≡ notice_status SinkFailed) × TakesPart out output
    × (TakesWhole errs (notice_line SinkFailed) ⊎ TakesPart errs (notice_line SinkFailed)))
Delivers (Err refusal) out errs answer =
    IsSame out × TellsLine (status_of refusal) (refusal_line refusal) errs answer
