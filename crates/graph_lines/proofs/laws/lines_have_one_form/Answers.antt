use Rattle.graph_lines.proofs.OneForm.{one_form}
use Rattle.graph_lines.proofs.laws.lines_have_one_form.Goals as goal

pub returns : goal.returns
returns c = record { one_form = one_form }
