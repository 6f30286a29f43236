use Rattle.std.proofs.Common.{arith}
use Rattle.bdl_lexer.proofs.Scans.{one_more_digit}
use Rattle.bdl_lexer.proofs.scan.number_of.Goals as goal

pub returns-then-value-gt-NUMBER_MAX : goal.returns-then-value-gt-NUMBER_MAX
returns-then-value-gt-NUMBER_MAX c =
    one_more_digit c.args.digits.now c.loop-digit.digit-index c.loop-digit.value (omega arith) c.loop-digit.invariant.value (omega (arith, c.from.ensures))
