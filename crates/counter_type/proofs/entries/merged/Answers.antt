use Rattle.std.proofs.Common.{◌≤◌, ◌⊎◌, inl, inr, length, sym, arith}
use borrow.Author.Tests.{eqb-true}
use Rattle.context_model.specs.KeyedMerge.{merge_with, later}
use Rattle.context_model.proofs.MergeSteps.{with_rests}
use Rattle.counter_type.proofs.entries.merged.Goals as goal
use Rattle.counter_type.proofs.entries.merged.Goals.{then-loop-news-test+else-not-is_empty, else-loop-news-test}

pub returns : goal.returns
returns g c =
    let ours = c.loop-news.ours.items in
    let news = c.loop-news.news.items in
    let order = g.K.Keys.order c.args.keys.now in
    let none : (length ours ≤ 0) ⊎ (length news ≤ 0) = elim c.loop-news-test.branch [ then-loop-news-test+else-not-is_empty w ↦ inr (let zero_long = eqb-true _ _ (sym w.if-not-is_empty.ensures) in omega arith) | else-loop-news-test w ↦ inl (let zero_long = eqb-true _ _ (sym w.loop-news-test.ensures) in omega arith) ] in
    rw (c.move_rest-2.ensures.moved, c.move_rest.ensures.moved) (with_rests order later ours news c.loop-news.entries.items (merge_with order later c.args.ours.items c.args.news.items) none c.loop-news.invariant.so_far)
