-- A line of a context, typed under a table or not.
use Rattle.std.proofs.Common.{◌≡◌, inl, inr, ℕ, List, [], ◌∷◌, refl, ap, ◌∙◌}
use Rattle.context_model.specs.Framing.{offset_of}
use Rattle.bag_model.specs.Readings.{PathsOf}
use Rattle.bag_model.specs.Shapes.{Nodes}
use Rattle.bag_model.specs.Typed.{AreTyped, IsFirstIllTyped}
use Rattle.text_lines.specs.Lines.{Line}
use Rattle.text_lines.specs.Readings.{AllSay}
use Rattle.baggage_cli.specs.declared.refusals.InputFault.TheVariants.{IllTyped}
use Rattle.baggage_cli.specs.declared.refusals.Refusal.{Refusal}
use Rattle.baggage_cli.specs.declared.refusals.Refusal.TheVariants.{Input}
use Rattle.baggage_cli.specs.Reading.{Framed, RefusesLine, only_one, context_lines, typed_lines}

-- A line of a context that is typed says it under the table.
pub says_typed : (table : Nodes) (text : List ℕ) (said : Framed) → context_lines.says [] text said → AreTyped table (PathsOf said.1) [] → (typed_lines table).says [] text said
says_typed table text said (bytes, hex, (form, says)) typed = (bytes, hex, (form, says, typed))

-- A line of a context that isn't typed is bad.
pub refuses_ill_typed : (table : Nodes) (line : Line) (said : Framed) (place offset : ℕ) → context_lines.says [] line.1 said → IsFirstIllTyped table said.1 place
    → offset ≡ offset_of said.0 said.1 place → RefusesLine (typed_lines table) line (Input line.0 (IllTyped offset))
refuses_ill_typed table line said place offset (bytes, hex, (form, says)) first is =
    inr (IllTyped offset, inr (bytes, hex, inr (said.1, place, says, first, ap IllTyped (is ∙ ap (λ f. offset_of f said.1 place) form))), refl)

-- A line that says no context is bad under each table.
pub refuses_no_context : (table : Nodes) (line : Line) (refusal : Refusal) → RefusesLine context_lines line refusal → RefusesLine (typed_lines table) line refusal
refuses_no_context table line refusal (inl wanting) = inl wanting
refuses_no_context table line refusal (inr (fault, inl hex, is)) = inr (fault, inl hex, is)
refuses_no_context table line refusal (inr (fault, inr (bytes, hex, bad), is)) = inr (fault, inr (bytes, hex, inl bad), is)

-- The context of the one line is typed.
pub only_typed : (table : Nodes) (lines : List Line) (said : Framed) → AllSay (only_one (typed_lines table)) [] lines (said ∷ []) → AreTyped table (PathsOf said.1) []
only_typed table [] said all = absurd all
only_typed table (line ∷ lines) said ((few, (bytes, hex, (form, says, typed))), rest) = typed
