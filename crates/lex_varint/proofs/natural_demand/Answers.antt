use Rattle.std.proofs.Common.{arith}
use Rattle.lex_varint.proofs.Ones.{ones_some}
use Rattle.lex_varint.proofs.natural_demand.Goals as goal

pub overflow_sub-result : goal.overflow_sub-result
overflow_sub-result c = omega (arith, c.leading_ones-ones.ensures, ones_some c.args.first c.ranges.first.fits c.requires)
