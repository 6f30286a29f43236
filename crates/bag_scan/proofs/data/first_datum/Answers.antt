use Rattle.std.proofs.Common.{arith}
use Rattle.bag_scan.proofs.DataPlaces.{first_more}
use Rattle.bag_scan.proofs.data.first_datum.Goals as goal

pub loop-at-preserved : goal.loop-at-preserved
loop-at-preserved c = first_more c.args.list.now c.args.from c.loop-at.at (λ is. let t = (c.if-is_datum.ensures).1 is in cc) c.loop-at.invariant

pub returns : goal.returns
returns c = λ k l m. c.loop-at.invariant k l (omega (arith, m, c.loop-at-test.false))
