-- What one line of a context comes to, decoded under a table.
use Rattle.std.specs.Prelude.{ℕ, ◌≤◌, List, [], ◌∷◌, length}
use Rattle.bag_model.specs.Shapes.{Nodes}
use Rattle.report_text.specs.Blocks.{IsBlock}
use Rattle.text_lines.specs.declared.TheConstants.{INPUT_MAX}
use Rattle.text_lines.specs.Lines.{Line, lines_of}
use Rattle.text_lines.specs.Readings.{AllSay}
use Rattle.baggage_cli.specs.Outcomes.{Outcome}
use Rattle.baggage_cli.specs.Reading.{Framed, ReadsOne, typed_lines}

-- What lines come to, decoded under a table: the one line of a typed context gives the block of the
-- context, in the form that it came in.
abbrev pub DecodesLines : Nodes → List Line → Outcome → Type 0
DecodesLines table = ReadsOne (typed_lines table) (λ said. IsBlock table said.0 said.1)

-- An input that isn't too long has one line, which says this context in its form, and the context
-- is typed under the table.
abbrev pub SaysTyped : Nodes → List ℕ → Framed → Type 0
SaysTyped table input said =
    (length input ≤ INPUT_MAX) × AllSay (typed_lines table) [] (lines_of input) (said ∷ [])
