use Rattle.report_json.proofs.StepObjects.{IsBegun}
use Rattle.report_json.proofs.reports.report_json.Given as goal

abbrev pub invariant-loop-at : goal.invariant-loop-at
invariant-loop-at l = IsBegun l.table l.graph l.lists l.graph.shows l.at l.text.items
