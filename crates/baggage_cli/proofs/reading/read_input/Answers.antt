use Rattle.std.proofs.Common.{inr, Err, ap}
use Rattle.baggage_cli.specs.Scene.{change}
use Rattle.baggage_cli.proofs.Inputs.{whole_read, long_read}
use Rattle.baggage_cli.proofs.reading.read_input.Goals as goal

pub returns-in-Ok : goal.returns-in-Ok
returns-in-Ok g c =
    let source = change g.S.Source.left g.S.Source.faults c.args.source.now c.read_all.new.source in
    let read = c.in-Ok.ensures in
    (read.later, whole_read source c.in-Ok.input.items read.all read.end read.steady read.fits, read.fits)

pub returns-in-Err-TooLong : goal.returns-in-Err-TooLong
returns-in-Err-TooLong g c =
    let source = change g.S.Source.left g.S.Source.faults c.args.source.now c.read_all.new.source in
    let read = c.in-Err-TooLong.ensures in
    let is = ap Err c.in-Err-TooLong.field-0-is in
    let taken = read.too_long is in
    let input = long_read source taken.0 taken.2 taken.1 (read.long_steady is) in
    (read.later, inr (inr (input.0, input.1, (input.2, c.of_input.ensures))))
