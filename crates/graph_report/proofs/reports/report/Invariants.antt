use Rattle.std.proofs.Common.{take}
use Rattle.graph_report.specs.Reports.{AreReported}
use Rattle.graph_report.proofs.reports.report.Given as goal

abbrev pub invariant-loop-number : goal.invariant-loop-number
invariant-loop-number l = AreReported l.table l.graph l.lists (take l.number-index l.number-items) l.text.items
