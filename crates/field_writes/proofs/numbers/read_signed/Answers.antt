use Rattle.field_writes.proofs.Decimals.{no_negative, negative_is, positive_is}
use Rattle.field_writes.proofs.numbers.read_signed.Goals as goal

pub returns-in_default : goal.returns-in_default
returns-in_default c = no_negative c.args.text.now c.in-Some.digits.now c.in-Some.ensures c.in_default.ensures

pub returns-in-Some-read_decimal : goal.returns-in-Some-read_decimal
returns-in-Some-read_decimal c =
    let size = c.in-Some-read_decimal.ensures in
    negative_is c.args.text.now c.in-Some.digits.now c.in-Some-read_decimal.size c.negated.result c.in-Some.ensures size.0 size.1 c.negated.ensures

pub returns-in-Some-read_decimal-2 : goal.returns-in-Some-read_decimal-2
returns-in-Some-read_decimal-2 c =
    let size = c.in-Some-read_decimal-2.ensures in
    positive_is c.args.text.now c.in-Some-read_decimal-2.size c.not_negated.result c.in-None.ensures size.0 size.1 c.not_negated.ensures
