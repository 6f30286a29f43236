-- The report of some steps: for each of them its number and the block of its list.
use Rattle.std.specs.Prelude.{◌≡◌, ℕ, List, [], ◌∷◌, ◌++◌, codes}
use Rattle.std.specs.Fmt.{decimal}
use Rattle.bag_model.specs.Shapes.{Nodes}
use Rattle.trace_model.specs.Graphs.{Graph, step_form}
use Rattle.trace_model.specs.Runs.{Lists, list_at}
use Rattle.report_text.specs.Blocks.{IsBlock}

-- The line with the number of a step, and then the block.
abbrev pub step_text : ℕ → List ℕ → List ℕ
step_text n block = codes "step " ++ decimal n ++ 10 ∷ block

-- The text is that of these steps, where all steps have these lists: of each in order its number
-- and its block, in the form of the service where it is.
abbrev pub AreReported : Nodes → Graph → Lists → List ℕ → List ℕ → Type 0
AreReported nodes graph lists [] text = text ≡ []
AreReported nodes graph lists (n ∷ shows) text =
    (block rest : List ℕ) × IsBlock nodes (step_form graph n) (list_at lists n) block
    × AreReported nodes graph lists shows rest × (text ≡ step_text n block ++ rest)

-- The text is the report of the graph's shown steps.
abbrev pub IsReport : Nodes → Graph → Lists → List ℕ → Type 0
IsReport nodes graph lists text = AreReported nodes graph lists graph.shows text

-- A graph with its lists has one report.
abbrev pub HasOneReport : Type 0
HasOneReport = (nodes : Nodes) (graph : Graph) (lists : Lists) (a b : List ℕ)
    → IsReport nodes graph lists a → IsReport nodes graph lists b → a ≡ b

-- The number of a step and its block follow a text.
abbrev pub AddsStep : Nodes → Graph → Lists → ℕ → List ℕ → List ℕ → Type 0
AddsStep nodes graph lists n before after =
    (block : List ℕ) × IsBlock nodes (step_form graph n) (list_at lists n) block
    × (after ≡ before ++ step_text n block)
