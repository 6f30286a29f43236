-- What one line of atoms comes to, cut to a budget.
use Rattle.std.specs.Prelude.{◌≡◌, ℕ, List}
use Rattle.context_model.specs.Framing.{bytes_of}
use Rattle.context_model.specs.Trimmed.{trimmed}
use Rattle.text_lines.specs.HexLines.{hex_line}
use Rattle.text_lines.specs.Lines.{Line}
use Rattle.baggage_cli.specs.Outcomes.{Outcome}
use Rattle.baggage_cli.specs.Reading.{Framed, ReadsOne, cut_lines}

-- The line of a list that is trimmed to a budget, in the form that it came in.
abbrev pub trimmed_line : ℕ → Framed → List ℕ
trimmed_line budget said = hex_line (bytes_of said.0 (trimmed said.0 said.1 budget))

-- What lines come to, trimmed to a budget: the one line of a list gives the line of the trimmed
-- list.
abbrev pub TrimsLines : ℕ → List Line → Outcome → Type 0
TrimsLines budget = ReadsOne (cut_lines budget) (λ said output. output ≡ trimmed_line budget said)
