use Rattle.report_json.proofs.OneJson.{one_json_report}
use Rattle.report_json.proofs.laws.lists_have_one_json_report.Goals as goal

pub returns : goal.returns
returns c = one_json_report
