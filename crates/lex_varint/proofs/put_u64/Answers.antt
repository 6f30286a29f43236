use Rattle.std.proofs.Common.{◌∙◌, arith}
use Rattle.lex_varint.proofs.Puts.{unsigned_few, unsigned_fits, unsigned_is}
use Rattle.lex_varint.proofs.put_u64.Goals as goal

pub bounds-follows : goal.bounds-follows
bounds-follows c = omega (arith, unsigned_few c.unsigned_tail-follows.result c.args.value c.ranges.value.fits c.unsigned_tail-follows.ensures)

pub code_of-requires-clause-few : goal.code_of-requires-clause-few
code_of-requires-clause-few c = unsigned_few c.unsigned_tail-follows.result c.args.value c.ranges.value.fits c.unsigned_tail-follows.ensures

pub code_of-requires-clause-room : goal.code_of-requires-clause-room
code_of-requires-clause-room c = unsigned_fits c.unsigned_tail-follows.result c.args.value c.ranges.value.fits c.unsigned_tail-follows.ensures

pub returns : goal.returns
returns c = c.code_of.ensures ∙ unsigned_is c.unsigned_tail-follows.result c.args.value c.ranges.value.fits c.unsigned_tail-follows.ensures
