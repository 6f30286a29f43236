use Rattle.graph_report.proofs.ReportParts.{one_report}
use Rattle.graph_report.proofs.laws.lists_have_one_report.Goals as goal

pub returns : goal.returns
returns c = λ nodes graph lists a b. one_report c.lists_have_one_block.ensures nodes graph lists graph.shows a b
