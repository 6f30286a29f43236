-- Lines of lists that are cut to a budget.
use Rattle.std.proofs.Common.{ℕ, ◌≤◌, List, [], ◌∷◌, sym, subst}
use Rattle.context_model.specs.Framing.{least_budget}
use Rattle.text_lines.specs.Lines.{Line}
use Rattle.text_lines.specs.Readings.{AllSay}
use Rattle.baggage_cli.specs.Reading.{Framed, only_one, cut_lines}

-- The list of the one line can be cut to the budget.
pub only_cut : (budget : ℕ) (lines : List Line) (said : Framed) → AllSay (only_one (cut_lines budget)) [] lines (said ∷ []) → least_budget said.0 ≤ budget
only_cut budget [] said all = absurd all
only_cut budget (line ∷ lines) said ((few, (bytes, hex, (enough, (form, atoms, says)))), rest) = subst (λ f. least_budget f ≤ budget) (sym form) enough
