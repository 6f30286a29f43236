use Rattle.text_carrier.proofs.OneWay.{one_way}
use Rattle.text_carrier.proofs.laws.lines_collect_one_way.Goals as goal

pub returns : goal.returns
returns c = one_way
