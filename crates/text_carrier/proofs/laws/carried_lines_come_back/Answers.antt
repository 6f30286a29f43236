use Rattle.text_carrier.proofs.Sent.{come_back}
use Rattle.text_carrier.proofs.laws.carried_lines_come_back.Goals as goal

pub returns : goal.returns
returns c = λ width bytes sent carried some every. come_back width bytes carried sent some every
