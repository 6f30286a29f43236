use Rattle.bag_model.proofs.GoneDataLaws.{gone_data_leave_headers}
use Rattle.bag_value.proofs.laws.gone_data_leave_headers.Goals as goal

pub returns : goal.returns
returns c = gone_data_leave_headers
