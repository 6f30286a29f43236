use Rattle.text_carrier.proofs.Sent.{lost_told, one_lost}
use Rattle.text_carrier.proofs.laws.lost_lines_are_told.Goals as goal

pub returns : goal.returns
returns c = λ width bytes sent line carried some any i none.
    let (place, lost) = one_lost width bytes carried sent line i none in
    (place, lost, lost_told width bytes carried sent place some any lost)
