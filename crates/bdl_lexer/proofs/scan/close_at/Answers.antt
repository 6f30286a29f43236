use Rattle.std.proofs.Common.{arith}
use Rattle.bdl_lexer.proofs.Scans.{closes_at}
use Rattle.bdl_lexer.proofs.scan.close_at.Goals as goal

pub returns-then-bytes-at-eq47 : goal.returns-then-bytes-at-eq47
returns-then-bytes-at-eq47 c =
    closes_at c.args.bytes.now c.loop-at.at (omega arith) c.if-bytes-at-eq42.true c.if-bytes-at-eq47.true c.loop-at.invariant.none
