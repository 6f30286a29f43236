-- The objects of steps.
use Rattle.std.proofs.Common.{◌≡◌, ℕ, ◌+◌, false, List, [], ◌∷◌, ◌++◌, length, sym, ap, ◌∙◌, subst}
use Rattle.std.specs.List.{slice_index}
use Rattle.bag_model.specs.Shapes.{Nodes}
use Rattle.trace_model.specs.Graphs.{Graph}
use Rattle.trace_model.specs.Runs.{Lists, list_at}
use Rattle.text_model.specs.Commas.{comma_before}
use Rattle.serde_json.specs.Data.{Data}
use Rattle.serde_json.specs.Written.{compact_text, has_float}
use Rattle.context_json.specs.Objects.{AreInPlace}
use Rattle.context_json.proofs.Floatless.{slots_floatless}
use Rattle.context_json.proofs.Placed.{one_placed}
use Rattle.report_json.specs.JsonReports.{IsStepObject, AddsStepObject, IsJsonReport}
use Rattle.report_json.proofs.Rows.{row_text, row_more, row_closed}

pub step_floatless : (nodes : Nodes) (graph : Graph) (lists : Lists) (n : ℕ) (d : Data) → IsStepObject nodes graph lists n d → has_float d ≡ false
step_floatless nodes graph lists n d (fields, are, is) =
    let none = slots_floatless nodes (list_at lists n) fields are in
    ap has_float is ∙ cc

-- ---- the text so far

-- The objects of the first `count` shown steps follow the opening bracket.
abbrev pub IsBegun : Nodes → Graph → Lists → List ℕ → ℕ → List ℕ → Type 0
IsBegun nodes graph lists shows count text =
    (objects : List Data) × AreInPlace count (λ place d. IsStepObject nodes graph lists (slice_index shows place) d) objects
    × (text ≡ 91 ∷ row_text false objects)

-- A comma, except before the first, and the object of the next step.
pub one_begun : (nodes : Nodes) (graph : Graph) (lists : Lists) (shows : List ℕ) (at n : ℕ) (before middle after : List ℕ) → IsBegun nodes graph lists shows at before → middle ≡ before ++ comma_before at
    → slice_index shows at ≡ n → AddsStepObject nodes graph lists n middle after → IsBegun nodes graph lists shows (at + 1) after
one_begun nodes graph lists shows at n before middle after (objects, are, is) comma here (d, right, added) = (
  objects ++ d ∷ [],
  one_placed (λ place d. IsStepObject nodes graph lists (slice_index shows place) d) at objects d are (subst (λ (m : ℕ). IsStepObject nodes graph lists m d) (sym here) right),
  added
      ∙ ap (λ (l : List ℕ). l ++ compact_text d) (comma ∙ ap (λ (l : List ℕ). l ++ comma_before at) is)
      ∙ ap (λ (l : List ℕ). 91 ∷ l) (sym (row_more at objects d are.0)),
)

-- The closing bracket makes the report.
pub all_begun : (nodes : Nodes) (graph : Graph) (lists : Lists) (at : ℕ) (before after : List ℕ) → IsBegun nodes graph lists graph.shows at before → at ≡ length graph.shows → after ≡ before ++ 93 ∷ [] → IsJsonReport nodes graph lists after
all_begun nodes graph lists at before after (objects, are, is) all closed = (
  objects,
  (are.0 ∙ all, are.1),
  closed ∙ ap (λ (l : List ℕ). l ++ 93 ∷ []) is ∙ ap (λ (l : List ℕ). 91 ∷ l) (sym (row_closed false objects)),
)
