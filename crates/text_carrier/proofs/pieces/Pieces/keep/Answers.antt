use Rattle.text_carrier.proofs.Kept.{keeps_more}
use Rattle.text_carrier.proofs.pieces.Pieces.keep.Goals as goal

pub returns : goal.returns
returns c = λ said bytes keeps none are is.
    keeps_more said c.args.self.now c.insert.new.self (record { place = c.args.line.place; count = c.args.line.count; bytes = bytes }) c.args.line.word keeps none are is c.in_ok-insert.ensures.updates
