-- A table, and a file beside it, that are taken before the source is read.
use Rattle.std.proofs.Common.{◌≡◌, inl, inr, ℕ, List, Result, Ok, Err, refl, ap}
use Rattle.std.specs.Global.{Vec}
use Rattle.std.specs.Result.{IsErrAnd}
use Rattle.bag_model.specs.Shapes.{Nodes}
use Rattle.bdl_load.specs.Loading.{Holding}
use Rattle.text_lines.specs.Lines.{Line, lines_of}
use Rattle.baggage_cli.specs.declared.refusals.Refusal.{Refusal}
use Rattle.baggage_cli.specs.Outcomes.{Outcome, outcome_of, OrMemory}
use Rattle.baggage_cli.specs.Reading.{ReadsInput, ReadsAll, Within}
use Rattle.baggage_cli.specs.Scene.{Change, Halfway, until, since, IsSame}
use Rattle.baggage_cli.specs.Tables.{Origin, Obtains, Brings}
use Rattle.baggage_cli.specs.Work.{ReadsUnder, ReadsUnderBeside}
use Rattle.baggage_cli.proofs.Inputs.{unread, read_gave}
use Rattle.baggage_cli.proofs.Obtained.{unobtained}

module _ (origin : Origin) (gives : Nodes → List Line → Outcome → Type 0) (library : Change Holding) (requests : Change (List (List ℕ))) (source : Change (List ℕ)) where
  -- Where the table is refused, that is the outcome.
  pub no_table : (refusal : Refusal) (result : Result (Vec ℕ) Refusal) → IsErrAnd result (λ other. other ≡ refusal) → Obtains origin library requests (Err refusal) → IsSame source
      → ReadsUnder origin gives library requests source (outcome_of result)
  no_table refusal result is obtains idle = unobtained (IsSame source) (λ table. ReadsAll (Within (gives table)) source) origin library requests refusal result is obtains idle

  -- Where the source gives no input under a table, that is.
  pub no_input : (table : Nodes) (refusal : Refusal) (result : Result (Vec ℕ) Refusal) → IsErrAnd result (λ other. other ≡ refusal) → Obtains origin library requests (Ok table)
      → ReadsInput source (Err refusal) → ReadsUnder origin gives library requests source (outcome_of result)
  no_input table refusal result is obtains reads = inr (table, obtains, unread (gives table) source result refusal is reads)

  -- Otherwise it is what the lines come to under the table.
  pub lines_gave : (table : Nodes) (input : Vec ℕ) (text : List ℕ) (outcome : Outcome) → Obtains origin library requests (Ok table) → ReadsInput source (Ok input) → text ≡ input.items
      → OrMemory (gives table (lines_of text)) outcome → ReadsUnder origin gives library requests source outcome
  lines_gave table input text outcome obtains reads is gave = inr (table, obtains, read_gave (gives table) source input text outcome reads is gave)

module _ (origin : Origin) (file : List ℕ) (gives : Nodes → List ℕ → List Line → Outcome → Type 0) (library : Change Holding) (requests : Change (List (List ℕ))) (source : Change (List ℕ)) where
  -- Where the table is refused, that is the outcome.
  pub no_first : (refusal : Refusal) (result : Result (Vec ℕ) Refusal) → IsErrAnd result (λ other. other ≡ refusal) → Obtains origin library requests (Err refusal) → IsSame source
      → ReadsUnderBeside origin file gives library requests source (outcome_of result)
  no_first refusal (Ok output) is obtains idle = absurd is
  no_first refusal (Err other) is obtains idle = inl (refusal, obtains, idle, ap Err is)

  module _ (half : Halfway) (table : Nodes) (taken : Obtains origin (until half.files half.faults library) (until half.asked half.faults requests) (Ok table)) where
    -- Where the file is refused, that is.
    pub no_file : (refusal : Refusal) (result : Result (Vec ℕ) Refusal) → IsErrAnd result (λ other. other ≡ refusal)
        → Brings file (since half.files half.faults library) (since half.asked half.faults requests) (Err refusal) → IsSame source
        → ReadsUnderBeside origin file gives library requests source (outcome_of result)
    no_file refusal (Ok output) is brings idle = absurd is
    no_file refusal (Err other) is brings idle = inr (half, table, taken, inl (refusal, brings, idle, ap Err is))

    -- Where the source gives no input beside both, that is.
    pub no_input_beside : (text : List ℕ) (refusal : Refusal) (result : Result (Vec ℕ) Refusal) → IsErrAnd result (λ other. other ≡ refusal)
        → Brings file (since half.files half.faults library) (since half.asked half.faults requests) (Ok text) → ReadsInput source (Err refusal)
        → ReadsUnderBeside origin file gives library requests source (outcome_of result)
    no_input_beside text refusal result is brings reads = inr (half, table, taken, inr (text, brings, unread (gives table text) source result refusal is reads))

    -- Otherwise it is what the lines come to beside both.
    pub lines_gave_beside : (text : List ℕ) (input : Vec ℕ) (bytes : List ℕ) (outcome : Outcome)
        → Brings file (since half.files half.faults library) (since half.asked half.faults requests) (Ok text) → ReadsInput source (Ok input) → bytes ≡ input.items
        → OrMemory (gives table text (lines_of bytes)) outcome → ReadsUnderBeside origin file gives library requests source outcome
    lines_gave_beside text input bytes outcome brings reads is gave = inr (half, table, taken, inr (text, brings, read_gave (gives table text) source input bytes outcome reads is gave))
