use Rattle.std.proofs.Common.{◌<◌, arith, subst}
use Rattle.std.specs.Ordering.{nat_cmp}
use Rattle.context_model.specs.Orders.{Rises}
use Rattle.graph_text.proofs.Members.{all_from_each}
use Rattle.graph_text.proofs.Ranges.{pushed_range, covers_step, covers_all}
use Rattle.graph_text.proofs.views.merged.Goals as goal

pub push_range-requires : goal.push_range-requires
push_range-requires c = record {
  greater = all_from_each (λ held. held < c.max.result) c.loop-range.slots (λ slot i. let h = c.loop-range.invariant.1.below slot i in omega (arith, h, c.max.ensures));
}

pub loop-range-preserved : goal.loop-range-preserved
loop-range-preserved c = (
  subst (Rises nat_cmp) c.slots.view_is c.slots.invariant.rises,
  covers_step c.args.ranges.now c.loop-range.range-index _ c.loop-range.slots c.push_range.new.self c.loop-range.next c.max.result c.max-next.result
      c.requires c.loop-range-test.true c.loop-range.invariant.1 c.max.ensures (pushed_range c.loop-range.slots c.push_range.new.self c.max.result _ c.in_ok-push_range.ensures.ok) c.max-next.ensures,
)

pub returns-clause-rises : goal.returns-clause-rises
returns-clause-rises c = c.loop-range.invariant.0

pub returns-clause-each : goal.returns-clause-each
returns-clause-each c = covers_all c.args.ranges.now c.loop-range.range-index c.loop-range.slots c.loop-range.next c.loop-range-test.false c.loop-range.invariant.1
