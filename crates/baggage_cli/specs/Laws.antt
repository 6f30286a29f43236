-- What holds of all definitions, lists and graphs, and is cited of those of a call.
use Rattle.std.specs.Prelude.{◌≡◌, ℕ, List, Result, Ok}
use Rattle.bag_model.specs.Shapes.{Nodes}
use Rattle.bag_model.specs.Tables.{IsTable}
use Rattle.bdl_load.specs.Loading.{Holding}
use Rattle.report_text.specs.Blocks.{HasOneBlock}
use Rattle.text_carrier.specs.Collecting.{CollectOneWay}
use Rattle.trace_model.specs.Graphs.{Graph, IsRecorded}
use Rattle.trace_model.specs.Runs.{HasOneRun}
use Rattle.trace_model.specs.ShownValues.{ShownIsHonest}
use Rattle.graph_report.specs.Reports.{HasOneReport}
use Rattle.report_json.specs.JsonReports.{HasOneJsonReport}
use Rattle.graph_text.specs.Reading.{IsGraphOf, LinesAreDefinite}
use Rattle.def_evolve.specs.Breaks.{IsFitting}
use Rattle.def_evolve.specs.Evolution.{IsSafe}
use Rattle.write_proof.specs.Verdicts.{IsVerdictOf, TellsTruth, VerdictsAreOne}
use Rattle.write_proof.specs.declared.verdicts.Verified.TheVariants.{Yes}
use Rattle.baggage_cli.specs.declared.refusals.Refusal.{Refusal}
use Rattle.baggage_cli.specs.Tables.{Origin, TableGives}

-- Where a table comes from, files give one table or one refusal, never both, and what they give is
-- a table.
pub record TableLaws : Type 0 where
  pub gives_one : (origin : Origin) (held : Holding) (a b : Result Nodes Refusal)
      → TableGives origin held a → TableGives origin held b → a ≡ b
  pub is_table : (origin : Origin) (held : Holding) (table : Nodes)
      → TableGives origin held (Ok table) → IsTable table

-- A text says one graph or has one first fault; what it says is a sound graph of the table, which
-- has one run and one report in each form, and what is shown of the run is honest.
pub record GraphLaws : Type 0 where
  pub definite : LinesAreDefinite
  pub recorded : (table : Nodes) (text : List ℕ) (graph : Graph)
      → IsTable table → IsGraphOf table text graph → IsRecorded table graph
  pub one_run : HasOneRun
  pub one_report : HasOneReport
  pub one_json_report : HasOneJsonReport
  pub honest : ShownIsHonest

-- A certificate has one verdict, and one that is accepted tells the truth.
pub record CertificateLaws : Type 0 where
  pub one_verdict : VerdictsAreOne
  pub truth : (table : Nodes) (graph : Graph) (certificate : List ℕ) → IsRecorded table graph
      → IsVerdictOf table graph certificate Yes → TellsTruth table graph certificate

-- The laws that the program's answers rest on: those of tables, of graphs and of certificates, and
-- that a list has one block, lines of pieces have one answer, and contexts are safe under a table
-- that fits.
pub record Laws : Type 0 where
  pub one_collected : CollectOneWay
  pub tables : TableLaws
  pub one_block : HasOneBlock
  pub graphs : GraphLaws
  pub certificates : CertificateLaws
  pub fitting_is_safe : (old new : Nodes) → IsTable old → IsTable new → IsFitting old new
      → IsSafe old new
