-- Lists and steps have one report as JSON.
use Rattle.std.proofs.Common.{◌≡◌, ℕ, List, length, sym, ap, ◌∙◌}
use Rattle.std.specs.List.{slice_index}
use Rattle.bag_model.specs.Shapes.{Nodes}
use Rattle.trace_model.specs.Graphs.{Graph, step_form}
use Rattle.trace_model.specs.Runs.{Lists, list_at}
use Rattle.serde_json.specs.Data.{Data, array}
use Rattle.serde_json.specs.View.{items_of}
use Rattle.serde_json.specs.Written.{compact_text}
use Rattle.context_json.proofs.OneObject.{slots_same}
use Rattle.context_json.proofs.Placed.{one_list}
use Rattle.report_json.specs.JsonReports.{step_object, IsStepObject, HasOneJsonReport}

one_step : (nodes : Nodes) (graph : Graph) (lists : Lists) (n : ℕ) (a b : Data) → IsStepObject nodes graph lists n a → IsStepObject nodes graph lists n b → a ≡ b
one_step nodes graph lists n a b (fields, are, is) (others, too, also) =
    is
    ∙ ap (λ (l : List Data). step_object (step_form graph n) (list_at lists n) l n) (slots_same nodes (list_at lists n) fields others are too)
    ∙ sym also

pub one_json_report : HasOneJsonReport
one_json_report nodes graph lists a b (objects, are, is) (others, too, also) =
    is
    ∙ ap (λ (l : List Data). compact_text (array (items_of l)))
    (one_list (λ place d. IsStepObject nodes graph lists (slice_index graph.shows place) d) (length graph.shows) objects others (λ place. one_step nodes graph lists (slice_index graph.shows place)) are too)
    ∙ sym also
