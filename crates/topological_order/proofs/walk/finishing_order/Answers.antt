use Rattle.topological_order.proofs.Walking.{up_within, up_walked, all_finished}
use Rattle.topological_order.proofs.walk.finishing_order.Goals as goal

pub walk_from-requires-clause-root : goal.walk_from-requires-clause-root
walk_from-requires-clause-root c = up_within c.args.graph.now c.loop-root.walk c.loop-root.root c.loop-root.invariant.same c.loop-root-test.true

pub loop-root-preserved : goal.loop-root-preserved
loop-root-preserved c = up_walked c.args.graph.now c.loop-root.walk c.walk_from.new.self c.loop-root.root c.loop-root.invariant
    c.in_ok-walk_from.ensures.walk c.in_ok-walk_from.ensures.path

pub returns : goal.returns
returns c = all_finished c.args.graph.now c.loop-root.walk c.loop-root.root c.loop-root.invariant c.loop-root-test.false
