use Rattle.par_ranks.proofs.Gathering.{made_more}
use Rattle.par_ranks.proofs.steps.run_chunk.Goals as goal

pub loop-step-preserved : goal.loop-step-preserved
loop-step-preserved g c =
    made_more c.args.run.now.table.now c.args.run.now.graph.now c.args.lists.now c.args.steps.now c.loop-step.step-index c.in_ok-list.list c.loop-step.made.items c.push.new.self.items
    c.loop-step-test.true c.in_ok-list.ensures c.in_ok-push.ensures.items c.loop-step.invariant
