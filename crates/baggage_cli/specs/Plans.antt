-- How each task goes about its files and its input.
use Rattle.std.specs.Prelude.{◌≡◌, ◌⊎◌, ℕ, List, [], ◌∷◌, ◌++◌, length, Option, Some, Ok, Err}
use Rattle.bag_model.specs.Shapes.{Nodes}
use Rattle.bag_model.specs.Slots.{slots_of}
use Rattle.bdl_load.specs.Loading.{Holding}
use Rattle.table_text.specs.TableTexts.{table_text}
use Rattle.text_lines.specs.Lines.{Line}
use Rattle.command_line.specs.Commands.{Task}
use Rattle.command_line.specs.Commands as tasks
use Rattle.baggage_cli.specs.declared.refusals.Refusal.{Refusal}
use Rattle.baggage_cli.specs.Carry.{CarriesLines}
use Rattle.baggage_cli.specs.Check.{ok_line}
use Rattle.baggage_cli.specs.Collect.{CollectsLines}
use Rattle.baggage_cli.specs.Decode.{DecodesLines}
use Rattle.baggage_cli.specs.Evolve.{IsVerdictLine}
use Rattle.baggage_cli.specs.Load.{IsLoadOutput}
use Rattle.baggage_cli.specs.Merge.{MergesLines}
use Rattle.baggage_cli.specs.Outcomes.{Outcome, Makes}
use Rattle.baggage_cli.specs.Reading.{ReadsAll, Within}
use Rattle.baggage_cli.specs.Run.{RunsLines, as_lines, as_json}
use Rattle.baggage_cli.specs.Scene.{Change, IsSame}
use Rattle.baggage_cli.specs.Tables.{Origin, compiled, printed, FileGives, TableGives, AsksForTable}
use Rattle.baggage_cli.specs.Trim.{TrimsLines}
use Rattle.baggage_cli.specs.Verify.{VerifiesLines}
use Rattle.baggage_cli.specs.Why.{ExplainsLines}
use Rattle.baggage_cli.specs.Work.{BuildsText, ReadsUnder, TakesTwo, ReadsUnderBeside}

-- What is taken, in this order, and what that gives: nothing, the source alone, a table, a table
-- and then the source, two tables, or a table, then all that a file holds, and then the source.
pub data Plan : Type 1 where
  of_nothing : (List ℕ → Type 0) → Plan
  of_input : (List Line → Outcome → Type 0) → Plan
  of_table : Origin → (Nodes → List ℕ) → Plan
  under_table : Origin → (Nodes → List Line → Outcome → Type 0) → Plan
  of_tables : Origin → Origin → (Nodes → Nodes → List ℕ → Type 0) → Plan
  under_both : Origin → List ℕ → (Nodes → List ℕ → List Line → Outcome → Type 0) → Plan

-- What each task takes and gives.
abbrev pub plan : Task → Plan
plan (tasks.trim budget) = of_input (TrimsLines budget)
plan tasks.merge = of_input MergesLines
plan (tasks.carry width) = of_input (CarriesLines width)
plan tasks.collect = of_input CollectsLines
plan (tasks.check file bag) =
    of_table (compiled file bag) (λ table. ok_line (length (slots_of table)))
plan (tasks.table file bag) = of_table (compiled file bag) table_text
plan (tasks.decode file bag) = under_table (compiled file bag) DecodesLines
plan (tasks.run file bag) = under_table (compiled file bag) (RunsLines as_lines)
plan (tasks.run_table file) = under_table (printed file) (RunsLines as_lines)
plan (tasks.run_json file bag) = under_table (compiled file bag) (RunsLines as_json)
plan (tasks.load rounds) = of_nothing (IsLoadOutput rounds)
plan (tasks.evolve old new bag) = of_tables (compiled old bag) (compiled new bag) IsVerdictLine
plan (tasks.why file bag step path) = under_table (compiled file bag) (ExplainsLines step path)
plan (tasks.verify file bag certificate) = under_both (compiled file bag) certificate VerifiesLines

-- The source is read.
abbrev pub PlanReads : Plan → Type 0
PlanReads (of_nothing made) = ⊥
PlanReads (of_input gives) = Unit {0}
PlanReads (of_table origin text) = ⊥
PlanReads (under_table origin gives) = Unit {0}
PlanReads (of_tables old new gives) = ⊥
PlanReads (under_both origin file gives) = Unit {0}

-- Files of the library are fetched.
abbrev pub PlanFetches : Plan → Type 0
PlanFetches (of_nothing made) = ⊥
PlanFetches (of_input gives) = ⊥
PlanFetches (of_table origin text) = Unit {0}
PlanFetches (under_table origin gives) = Unit {0}
PlanFetches (of_tables old new gives) = Unit {0}
PlanFetches (under_both origin file gives) = Unit {0}

-- What an input gives, with the files that the library says it holds. Of files that it doesn't tell
-- and that are fetched, nothing is said.
abbrev pub PlanGives : Plan → Option Holding → List ℕ → Outcome → Type 0
PlanGives (of_nothing made) files input outcome = ⊥
PlanGives (of_input gives) files input outcome = Within gives input outcome
PlanGives (of_table origin text) files input outcome = ⊥
PlanGives (under_table origin gives) files input outcome =
    (held : Holding) × (files ≡ Some held) × (table : Nodes) × TableGives origin held (Ok table)
    × Within (gives table) input outcome
PlanGives (of_tables old new gives) files input outcome = ⊥
PlanGives (under_both origin file gives) files input outcome =
    (held : Holding) × (files ≡ Some held) × (table : Nodes) × (text : List ℕ)
    × TableGives origin held (Ok table) × FileGives file (held file) (Ok text)
    × Within (gives table text) input outcome

-- What is first wrong with the files that tables are taken from, or another file. The second of two
-- things is wanted where the first is given.
abbrev pub PlanRefuses : Plan → Holding → Refusal → Type 0
PlanRefuses (of_nothing made) held refusal = ⊥
PlanRefuses (of_input gives) held refusal = ⊥
PlanRefuses (of_table origin text) held refusal = TableGives origin held (Err refusal)
PlanRefuses (under_table origin gives) held refusal = TableGives origin held (Err refusal)
PlanRefuses (of_tables old new gives) held refusal =
    TableGives old held (Err refusal)
    ⊎ ((table : Nodes) × TableGives old held (Ok table) × TableGives new held (Err refusal))
PlanRefuses (under_both origin file gives) held refusal =
    TableGives origin held (Err refusal)
    ⊎ ((table : Nodes) × TableGives origin held (Ok table)
    × FileGives file (held file) (Err refusal))

-- All names that are asked for two tables, in order: those of the first, and after them those of
-- the second where the first is given.
abbrev pub AsksForBoth : Holding → Origin → Origin → List (List ℕ) → Type 0
AsksForBoth held old new names =
    ((refusal : Refusal) × TableGives old held (Err refusal) × AsksForTable held old names)
    ⊎ ((table : Nodes) × (front : List (List ℕ)) × (rest : List (List ℕ))
    × TableGives old held (Ok table)
    × AsksForTable held old front × AsksForTable held new rest × (names ≡ front ++ rest))

-- All names that are asked for a table and one more file, in order: those of the table, and after
-- them the file where the table is given.
abbrev pub AsksForFile : Holding → Origin → List ℕ → List (List ℕ) → Type 0
AsksForFile held origin file names =
    ((refusal : Refusal) × TableGives origin held (Err refusal) × AsksForTable held origin names)
    ⊎ ((table : Nodes) × (front : List (List ℕ)) × TableGives origin held (Ok table)
    × AsksForTable held origin front
    × (names ≡ front ++ file ∷ []))

-- All names that are asked for, in order.
abbrev pub PlanAsks : Holding → Plan → List (List ℕ) → Type 0
PlanAsks held (of_nothing made) names = names ≡ []
PlanAsks held (of_input gives) names = names ≡ []
PlanAsks held (of_table origin text) names = AsksForTable held origin names
PlanAsks held (under_table origin gives) names = AsksForTable held origin names
PlanAsks held (of_tables old new gives) names = AsksForBoth held old new names
PlanAsks held (under_both origin file gives) names = AsksForFile held origin file names

-- What may come of it, with the library and the source before and after.
abbrev pub PlanComes : Plan → Change Holding → Change (List (List ℕ)) → Change (List ℕ) → Outcome
    → Type 0
PlanComes (of_nothing made) library requests source outcome =
    IsSame library × IsSame requests × IsSame source × Makes made outcome
PlanComes (of_input gives) library requests source outcome =
    IsSame library × IsSame requests × ReadsAll (Within gives) source outcome
PlanComes (of_table origin text) library requests source outcome =
    IsSame source × BuildsText origin text library requests outcome
PlanComes (under_table origin gives) library requests source outcome =
    ReadsUnder origin gives library requests source outcome
PlanComes (of_tables old new gives) library requests source outcome =
    IsSame source × TakesTwo old new gives library requests outcome
PlanComes (under_both origin file gives) library requests source outcome =
    ReadsUnderBeside origin file gives library requests source outcome
