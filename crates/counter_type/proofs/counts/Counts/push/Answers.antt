use Rattle.std.proofs.Common.{arith}
use Rattle.counter_type.proofs.Pushed.{IsCounted-push}
use Rattle.counter_type.proofs.counts.Counts.push.Goals as goal

pub invariant_of-self-2 : goal.invariant_of-self-2
invariant_of-self-2 c = rw (c.in_ok-push.ensures.items, c.in_ok-writer.ensures) (IsCounted-push c.self.inside.entries.items c.args.writer.now c.args.count c.self.invariant (rw c.self.view_is c.requires) (omega arith))
