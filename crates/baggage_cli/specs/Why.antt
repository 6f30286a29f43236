-- Why a slot has its value at a step of a graph.
use Rattle.std.specs.Prelude.{◌≡◌, ◌⊎◌, ℕ, ◌<◌, ◌≤◌, List, [], length, Some, None, Ok, Err}
use Rattle.bag_model.specs.Shapes.{Nodes}
use Rattle.bag_model.specs.Slots.{FindsSlot}
use Rattle.graph_text.specs.Additions.{Addition, graph_of}
use Rattle.text_lines.specs.Lines.{Line}
use Rattle.text_lines.specs.Readings.{AllSay}
use Rattle.trace_model.specs.Graphs.{Graph}
use Rattle.trace_model.specs.Runs.{Lists, IsRun}
use Rattle.write_proof.specs.Certificates.{IsCertificate, IsEndedAt}
use Rattle.write_proof.specs.Verdicts.{IsVerdictOf}
use Rattle.write_proof.specs.declared.verdicts.Verified.TheVariants.{Yes}
use Rattle.baggage_cli.specs.declared.refusals.InputCode.TheVariants.{StepRange, NoSuchPath, Partial}
use Rattle.baggage_cli.specs.declared.refusals.Refusal.{Refusal}
use Rattle.baggage_cli.specs.Outcomes.{Outcome}
use Rattle.baggage_cli.specs.Refusals.{of_input}
use Rattle.baggage_cli.specs.Run.{GraphGives, graph_inputs}

-- The graph has a step of this number, and the table a slot of this name path, which is the one
-- with this number.
abbrev pub IsPlace : Nodes → Graph → ℕ → List ℕ → ℕ → Type 0
IsPlace table graph step path slot = (step < length graph.steps) × FindsSlot table path (Some slot)

-- The graph has no such step; or it has, and the table has no such slot.
abbrev pub IsNoPlace : Nodes → Graph → ℕ → List ℕ → Refusal → Type 0
IsNoPlace table graph step path refusal =
    ((length graph.steps ≤ step) × (refusal ≡ of_input StepRange))
    ⊎ ((step < length graph.steps) × FindsSlot table path None × (refusal ≡ of_input NoSuchPath))

-- The graph has the step and the table the slot, but the slot isn't ended in the list that the
-- graph's run gives the step.
abbrev pub IsPartial : Nodes → Graph → ℕ → List ℕ → Refusal → Type 0
IsPartial table graph step path refusal =
    (lists : Lists) × (slot : ℕ) × IsRun table graph lists × IsPlace table graph step path slot
    × (IsEndedAt table lists step slot → ⊥) × (refusal ≡ of_input Partial)

-- There is no certificate for what is asked for.
abbrev pub IsUnexplained : Nodes → Graph → ℕ → List ℕ → Refusal → Type 0
IsUnexplained table graph step path refusal =
    IsNoPlace table graph step path refusal ⊎ IsPartial table graph step path refusal

-- Of the slot with this number, which is ended in the list of the step, the output is the
-- certificate, and that verifies.
pub record IsExplainedAt (table : Nodes) (graph : Graph) (lists : Lists) (step : ℕ) (path : List ℕ)
    (slot : ℕ) (output : List ℕ) : Type 0 where
  pub run : IsRun table graph lists
  pub place : IsPlace table graph step path slot
  pub ended : IsEndedAt table lists step slot
  pub certificate : IsCertificate table graph lists step slot output
  pub verifies : IsVerdictOf table graph output Yes

-- The slot with this number has its certificate, which verifies, where it is ended in the list of
-- the step; elsewhere that is refused.
abbrev pub CertifiesSlot : Nodes → Graph → Lists → ℕ → ℕ → Outcome → Type 0
CertifiesSlot table graph lists step slot (Ok output) =
    IsEndedAt table lists step slot × IsCertificate table graph lists step slot output
    × IsVerdictOf table graph output Yes
CertifiesSlot table graph lists step slot (Err refusal) =
    (IsEndedAt table lists step slot → ⊥) × (refusal ≡ of_input Partial)

-- The output is the certificate for the slot of this path at the step.
abbrev pub IsExplained : ℕ → List ℕ → Nodes → Graph → List ℕ → Type 0
IsExplained step path table graph output =
    (lists : Lists) × (slot : ℕ) × IsExplainedAt table graph lists step path slot output

-- The lines say a graph, for which there is no certificate.
abbrev pub LeavesUnexplained : ℕ → List ℕ → Nodes → List Line → Outcome → Type 0
LeavesUnexplained step path table lines outcome =
    (every : List Addition) × (refusal : Refusal) × AllSay (graph_inputs table) [] lines every
    × IsUnexplained table (graph_of every) step path refusal × (outcome ≡ Err refusal)

-- What lines come to, where the value of the slot of this path at a step of their graph is to be
-- explained: its certificate. The first bad line counts before what there isn't in the graph.
abbrev pub ExplainsLines : ℕ → List ℕ → Nodes → List Line → Outcome → Type 0
ExplainsLines step path table lines outcome =
    GraphGives table (IsExplained step path table) lines outcome
    ⊎ LeavesUnexplained step path table lines outcome
