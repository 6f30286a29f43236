-- What the lines of a graph come to, run under a table.
use Rattle.std.specs.Prelude.{◌≡◌, ℕ, ◌≤◌, Bool, List, [], ◌∷◌, ◌++◌, length}
use Rattle.context_model.specs.Orders.{IsIn}
use Rattle.bag_model.specs.Shapes.{Nodes}
use Rattle.bag_model.specs.Values.{Value}
use Rattle.text_lines.specs.declared.TheConstants.{INPUT_MAX}
use Rattle.text_lines.specs.Lines.{Line}
use Rattle.text_lines.specs.Readings.{Reading}
use Rattle.trace_model.specs.Graphs.{Graph}
use Rattle.trace_model.specs.Runs.{Lists, list_at, IsRun}
use Rattle.trace_model.specs.ShownValues.{IsShown, IsHonest}
use Rattle.graph_report.specs.Reports.{IsReport}
use Rattle.report_json.specs.JsonReports.{IsJsonReport}
use Rattle.graph_text.specs.Additions.{Addition, graph_of}
use Rattle.graph_text.specs.Reading.{graph_lines, IsGraphOf}
use Rattle.graph_text.specs.declared.faults.LineFault.{LineFault}
use Rattle.graph_text.specs.declared.faults.LineFault.TheVariants as lines
use Rattle.baggage_cli.specs.declared.refusals.InputFault.{InputFault}
use Rattle.baggage_cli.specs.declared.refusals.InputFault.TheVariants as inputs
use Rattle.baggage_cli.specs.declared.commands.run.ReportForm.{ReportForm as CodeForm}
use Rattle.baggage_cli.specs.declared.commands.run.ReportForm.TheVariants.{Text, Json}
use Rattle.baggage_cli.specs.Outcomes.{Outcome}
use Rattle.baggage_cli.specs.Reading.{ReadsLines}

-- How a report is printed: as lines, or as JSON.
pub data ReportForm : Type 0 where
  as_lines : ReportForm
  as_json : ReportForm

-- The form that the code's name of it stands for.
abbrev pub report_form_of : CodeForm → ReportForm
report_form_of Text = as_lines
report_form_of Json = as_json

-- What is wrong with a line of a graph, as what is wrong with a line of an input.
abbrev pub input_fault : LineFault → InputFault
input_fault (lines.Code code) = inputs.Graph code
input_fault (lines.Bytes offset code) = inputs.Bytes offset code
input_fault (lines.IllTyped offset) = inputs.IllTyped offset

-- The output is the report of the graph's shown steps, as lines, or as JSON with a line feed after
-- it.
abbrev pub IsReportAs : ReportForm → Nodes → Graph → Lists → List ℕ → Type 0
IsReportAs as_lines table graph lists output = IsReport table graph lists output
IsReportAs as_json table graph lists output =
    (report : List ℕ) × IsJsonReport table graph lists report × (output ≡ report ++ 10 ∷ [])

-- The output is the report of the lists that the graph's run gives its steps.
abbrev pub IsRunReport : ReportForm → Nodes → Graph → List ℕ → Type 0
IsRunReport form table graph output =
    (lists : Lists) × IsRun table graph lists × IsReportAs form table graph lists output

-- What is shown of the slots of shown steps is honest: a value that is called exact is the truth,
-- none says more than the truth, and where nothing was cut off on the way each is called exact.
abbrev pub ShowsTruth : Nodes → Graph → Lists → Type 0
ShowsTruth table graph lists =
    (n slot : ℕ) (exact : Bool) (v : Value) → IsIn n graph.shows
    → IsShown table (list_at lists n) slot exact v → IsHonest table graph lists n slot exact v

-- Lines say what they add to the graph of those before them, and their faults are those of an
-- input.
abbrev pub graph_inputs : Nodes → Reading Addition InputFault
graph_inputs table = record {
  says = λ earlier text addition. (graph_lines table).says earlier text addition;
  faults = λ earlier text fault.
      (found : LineFault) × (graph_lines table).faults earlier text found
      × (fault ≡ input_fault found);
}

-- What lines come to, read as a graph of a table: an output for the graph that they say.
abbrev pub GraphGives : Nodes → (Graph → List ℕ → Type 0) → List Line → Outcome → Type 0
GraphGives table gives =
    ReadsLines (graph_inputs table) (λ every output. gives (graph_of every) output)

-- What lines come to, run under a table: the report of the graph that they say.
abbrev pub RunsLines : ReportForm → Nodes → List Line → Outcome → Type 0
RunsLines form table = GraphGives table (IsRunReport form table)

-- An input that isn't too long has lines that say this graph of the table.
abbrev pub SaysGraph : Nodes → List ℕ → Graph → Type 0
SaysGraph table input graph = (length input ≤ INPUT_MAX) × IsGraphOf table input graph
