-- What a call of the program may come to.
use Rattle.std.specs.Prelude.{◌≡◌, ◌⊎◌, ℕ, ◌≤◌, List, [], ◌∷◌, length, Option, Some, None, Ok, Err}
use Rattle.text_lines.specs.declared.TheConstants.{INPUT_MAX}
use Rattle.text_lines.specs.Lines.{lines_of}
use Rattle.text_lines.specs.Readings.{AllSay}
use Rattle.text_carrier.specs.Collecting.{Collects}
use Rattle.bdl_load.specs.Loading.{Holding}
use Rattle.command_line.specs.Commands.{Task}
use Rattle.baggage_cli.specs.declared.commands.merge.TheConstants.{LINES_MAX}
use Rattle.baggage_cli.specs.declared.refusals.Notice.TheVariants.{SinkFailed, WordsRefused}
use Rattle.baggage_cli.specs.declared.refusals.Refusal.{Refusal}
use Rattle.baggage_cli.specs.Carry.{AreOfContext, byte_lines}
use Rattle.baggage_cli.specs.Delivery.{Notifies, Delivers}
use Rattle.baggage_cli.specs.Outcomes.{Outcome}
use Rattle.baggage_cli.specs.Plans.{plan, PlanReads, PlanFetches, PlanGives, PlanRefuses, PlanAsks, PlanComes}
use Rattle.baggage_cli.specs.Reading.{Framed, cut_lines, context_lines}
use Rattle.baggage_cli.specs.Refusals.{refusal_line, notice_line}
use Rattle.baggage_cli.specs.Scene.{Change, Scene, IsSame, TakesWhole, TakesPart}

-- The task reads the source.
abbrev pub ReadsSource : Task → Type 0
ReadsSource task = PlanReads (plan task)

-- The task fetches files of the library.
abbrev pub FetchesFiles : Task → Type 0
FetchesFiles task = PlanFetches (plan task)

-- The library tells which files it holds, where the task fetches any.
abbrev pub TellsFiles : Task → Option Holding → Type 0
TellsFiles task files = FetchesFiles task → (held : Holding) × (files ≡ Some held)

-- What an input gives for a task, with the files that the library says it holds. Of files that it
-- doesn't tell and the task fetches, nothing is said.
abbrev pub InputGives : Task → Option Holding → List ℕ → Outcome → Type 0
InputGives task = PlanGives (plan task)

-- What is first wrong with the files that a task takes its tables from, or a certificate.
abbrev pub RefusesFiles : Task → Holding → Refusal → Type 0
RefusesFiles task = PlanRefuses (plan task)

-- All names that a task asks for, in order.
abbrev pub AsksNames : Holding → Task → List (List ℕ) → Type 0
AsksNames held task = PlanAsks held (plan task)

-- What a task may come to, with the library and the source before and after it.
abbrev pub Comes : Task → Change Holding → Change (List (List ℕ)) → Change (List ℕ) → Outcome
    → Type 0
Comes task = PlanComes (plan task)

-- The call answers: arguments that ask for nothing are refused and nothing else is touched;
-- otherwise what the task comes to is delivered.
abbrev pub Answers : Option Task → Scene → ℕ → Type 0
Answers None scene answer =
    IsSame scene.library × IsSame scene.requests × IsSame scene.source × IsSame scene.out
    × Notifies WordsRefused scene.errs answer
Answers (Some task) scene answer =
    (outcome : Outcome) × Comes task scene.library scene.requests scene.source outcome
    × Delivers outcome scene.out scene.errs answer

-- An input that isn't too long has one line, which says this list in its form, and the list can be
-- cut to the budget.
abbrev pub SaysList : ℕ → List ℕ → Framed → Type 0
SaysList budget input said =
    (length input ≤ INPUT_MAX) × AllSay (cut_lines budget) [] (lines_of input) (said ∷ [])

-- An input that isn't too long has lines that say these contexts in their forms, and there are no
-- more than may be merged.
abbrev pub SaysContexts : List ℕ → List Framed → Type 0
SaysContexts input said =
    (length input ≤ INPUT_MAX) × AllSay context_lines [] (lines_of input) said
    × (length said ≤ LINES_MAX)

-- An input that isn't too long has one line, which says these bytes of a context.
abbrev pub SaysBytes : List ℕ → List ℕ → Type 0
SaysBytes input bytes =
    (length input ≤ INPUT_MAX) × AllSay byte_lines [] (lines_of input) (bytes ∷ [])

-- The lines of an input that isn't too long say all pieces of these bytes, which are those of a
-- context.
abbrev pub SaysPieces : List ℕ → List ℕ → Type 0
SaysPieces input bytes =
    (length input ≤ INPUT_MAX) × Collects (lines_of input) (Ok bytes) × AreOfContext bytes

-- The objects that the task uses tell what they hold.
abbrev pub TellsAll : Task → Option Holding → Option (List ℕ) → Type 0
TellsAll task files content =
    TellsFiles task files × (ReadsSource task → (input : List ℕ) × (content ≡ Some input))

-- What the library and the source tell is refused for this: the files that tables come from, or the
-- input.
pub data IsRefusedFor (task : Task) (files : Option Holding) (content : Option (List ℕ))
    (refusal : Refusal) : Type 0 where
  by_files : (held : Holding) → files ≡ Some held → RefusesFiles task held refusal
      → IsRefusedFor task files content refusal
  by_input : (input : List ℕ) → content ≡ Some input → InputGives task files input (Err refusal)
      → IsRefusedFor task files content refusal

-- A sink failed. Either it is that of the output, which has a prefix of what the task comes to, and
-- the errors have the line that says so, or a prefix of that line; or it is that of the errors,
-- which have a prefix of the line of what the task is refused for, and nothing was written.
abbrev pub FailsSink : Task → Scene → Type 0
FailsSink task scene =
    ((output : List ℕ) × Comes task scene.library scene.requests scene.source (Ok output)
    × TakesPart scene.out output
    × (TakesWhole scene.errs (notice_line SinkFailed)
    ⊎ TakesPart scene.errs (notice_line SinkFailed)))
    ⊎ ((refusal : Refusal) × Comes task scene.library scene.requests scene.source (Err refusal)
    × IsSame scene.out
    × TakesPart scene.errs (refusal_line refusal))

-- The world outside failed, or memory ran out: no other status hides what is wrong with an input or
-- a definition.
abbrev pub IsFailure : ℕ → Type 0
IsFailure answer = (answer ≡ 4) ⊎ (answer ≡ 5) ⊎ (answer ≡ 6)
