-- The report of some steps as JSON: for each of them an object with the data of its number and its
-- block.
use Rattle.std.specs.Prelude.{◌≡◌, ℕ, List, ◌++◌, length, slice_index, codes}
use Rattle.context_model.specs.declared.Form.{Form}
use Rattle.context_model.specs.Atoms.{Atom}
use Rattle.context_model.specs.Framing.{bytes_of}
use Rattle.bag_model.specs.Shapes.{Nodes}
use Rattle.trace_model.specs.Graphs.{Graph, step_form}
use Rattle.trace_model.specs.Runs.{Lists, list_at}
use Rattle.text_lines.specs.HexLines.{hex_text}
use Rattle.serde_json.specs.Data.{Data, string, number, array, object, unsigned, member, no_members}
use Rattle.serde_json.specs.View.{items_of}
use Rattle.serde_json.specs.Written.{compact_text}
use Rattle.context_json.specs.Objects.{AreInPlace, AreSlotObjects}

-- The digits of the bytes of a list in this form, what it says of each slot, and the number of its
-- step.
abbrev pub step_object : Form → List Atom → List Data → ℕ → Data
step_object form list fields n = object
    (member (codes "bytes") (string (hex_text (bytes_of form list)))
    (member (codes "fields") (array (items_of fields))
    (member (codes "step") (number (unsigned n)) no_members)))

-- The object is that of the step with this number, where all steps have these lists, in the form of
-- the service where it is.
abbrev pub IsStepObject : Nodes → Graph → Lists → ℕ → Data → Type 0
IsStepObject nodes graph lists n d =
    (fields : List Data) × AreSlotObjects nodes (list_at lists n) fields
    × (d ≡ step_object (step_form graph n) (list_at lists n) fields n)

-- There is an object for each of these steps, in their order.
abbrev pub AreStepObjects : Nodes → Graph → Lists → List ℕ → List Data → Type 0
AreStepObjects nodes graph lists shows objects =
    AreInPlace (length shows)
    (λ place d. IsStepObject nodes graph lists (slice_index shows place) d) objects

-- The text is the compact text of the array of the objects of the graph's shown steps.
abbrev pub IsJsonReport : Nodes → Graph → Lists → List ℕ → Type 0
IsJsonReport nodes graph lists text =
    (objects : List Data) × AreStepObjects nodes graph lists graph.shows objects
    × (text ≡ compact_text (array (items_of objects)))

-- A graph with its lists has one report as JSON.
abbrev pub HasOneJsonReport : Type 0
HasOneJsonReport = (nodes : Nodes) (graph : Graph) (lists : Lists) (a b : List ℕ)
    → IsJsonReport nodes graph lists a → IsJsonReport nodes graph lists b → a ≡ b

-- The compact text of the object of a step follows a text.
abbrev pub AddsStepObject : Nodes → Graph → Lists → ℕ → List ℕ → List ℕ → Type 0
AddsStepObject nodes graph lists n before after =
    (d : Data) × IsStepObject nodes graph lists n d × (after ≡ before ++ compact_text d)
