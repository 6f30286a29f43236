-- The graph that a text says, and the first fault of a text that says none.
use Rattle.std.specs.Prelude.{◌≡◌, ◌⊎◌, ℕ, List, []}
use Rattle.bag_model.specs.Shapes.{Nodes}
use Rattle.bag_model.specs.Tables.{IsTable}
use Rattle.text_lines.specs.Lines.{lines_of}
use Rattle.text_lines.specs.Readings.{Reading, IsDefinite, AllSay, IsFirstBad}
use Rattle.trace_model.specs.Graphs.{Graph}
use Rattle.graph_lines.specs.Forms.{HasStatementForm}
use Rattle.graph_lines.specs.Statements.{Statement}
use Rattle.graph_text.specs.declared.faults.GraphCode.TheVariants.{Form}
use Rattle.graph_text.specs.declared.faults.GraphFault.{GraphFault}
use Rattle.graph_text.specs.declared.faults.GraphFault.TheVariants as graph_faults
use Rattle.graph_text.specs.declared.faults.LineFault.{LineFault}
use Rattle.graph_text.specs.declared.faults.LineFault.TheVariants.{Code, Bytes, IllTyped}
use Rattle.outside.specs.declared.answers.OrMemory.{OrMemory}
use Rattle.outside.specs.declared.answers.OrMemory.TheVariants as refusals
use Rattle.graph_text.specs.Additions.{Addition, graph_of, IsGoodStatement, IsBadStatement}

-- The line has a form and is good after lines that said this graph.
abbrev pub SaysAddition : Nodes → Graph → List ℕ → Addition → Type 0
SaysAddition table graph text addition =
    (line : Statement) × HasStatementForm text line × IsGoodStatement table graph line addition

-- The line has no form, or it is bad after lines that said this graph.
abbrev pub HasFault : Nodes → Graph → List ℕ → LineFault → Type 0
HasFault table graph text fault =
    (((line : Statement) → ¬ (HasStatementForm text line)) × (fault ≡ Code Form))
    ⊎ ((line : Statement) × HasStatementForm text line × IsBadStatement table graph line fault)

-- The text of a line is refused: it has a fault, or memory is wanting for it.
abbrev pub IsRefusedText : Nodes → Graph → List ℕ → OrMemory LineFault → Type 0
IsRefusedText table graph text (refusals.Fault fault) = HasFault table graph text fault
IsRefusedText table graph text refusals.Memory = Unit {0}

-- Lines say what they add to the graph of those before them.
abbrev pub graph_lines : Nodes → Reading Addition LineFault
graph_lines table = record {
  says = λ earlier text addition. SaysAddition table (graph_of earlier) text addition;
  faults = λ earlier text fault. HasFault table (graph_of earlier) text fault;
}

-- The text says this graph, line by line.
abbrev pub IsGraphOf : Nodes → List ℕ → Graph → Type 0
IsGraphOf table text graph =
    (every : List Addition) × AllSay (graph_lines table) [] (lines_of text) every
    × (graph ≡ graph_of every)

-- The first bad line of the text has this number and this fault.
abbrev pub IsFirstFault : Nodes → List ℕ → ℕ → LineFault → Type 0
IsFirstFault table text number fault = IsFirstBad (graph_lines table) (lines_of text) number fault

-- The answer names the first fault. Where memory ran out, nothing is claimed.
abbrev pub IsGraphRefusalOf : Nodes → List ℕ → GraphFault → Type 0
IsGraphRefusalOf table text (graph_faults.At number code) =
    IsFirstFault table text number (Code code)
IsGraphRefusalOf table text (graph_faults.Bytes number offset code) =
    IsFirstFault table text number (Bytes offset code)
IsGraphRefusalOf table text (graph_faults.IllTyped number offset) =
    IsFirstFault table text number (IllTyped offset)
IsGraphRefusalOf table text graph_faults.Memory = Unit {0}

-- The refusal of a text, by that of its line with this number.
abbrev pub graph_fault_at : ℕ → OrMemory LineFault → GraphFault
graph_fault_at number (refusals.Fault (Code code)) = graph_faults.At number code
graph_fault_at number (refusals.Fault (Bytes offset code)) = graph_faults.Bytes number offset code
graph_fault_at number (refusals.Fault (IllTyped offset)) = graph_faults.IllTyped number offset
graph_fault_at number refusals.Memory = graph_faults.Memory

-- Under a table a line says one thing or has one fault, never both; so a text says one graph or has
-- one first fault.
abbrev pub LinesAreDefinite : Type 0
LinesAreDefinite = (table : Nodes) → IsTable table → IsDefinite (graph_lines table)
