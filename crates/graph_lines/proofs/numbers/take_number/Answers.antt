use Rattle.std.proofs.Common.{◌^◌, arith}
use Rattle.graph_lines.specs.Reading.{NumberThen}
use Rattle.text_lines.proofs.Numbers.{none_taken, one_taken}
use Rattle.graph_lines.proofs.numbers.take_number.Goals as goal

pub returns-in_err-number : goal.returns-in_err-number
returns-in_err-number c =
    rw c.from_residual-in_err-number.ensures
    (none_taken (10 ^ 10) (omega arith) c.args.text.now c.in_ok-digits.digits.now c.in_ok-digits.rest.now c.in_ok-digits.ensures.0 c.in_ok-digits.ensures.1 c.in_err-number.ensures)

pub returns : goal.returns
returns c =
    let text = c.args.text.now in let number = c.in_ok-number.number in let rest = c.in_ok-digits.rest.now in
    let said = c.in_ok-number.ensures in
    let front : NumberThen text number rest = (said.0, rw said.1 at c.in_ok-digits.ensures.1) in
    (front, one_taken (10 ^ 10) (omega arith) text number rest front)
