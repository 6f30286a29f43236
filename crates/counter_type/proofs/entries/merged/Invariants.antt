use Rattle.std.proofs.Common.{◌≡◌, ◌+◌, ◌≤◌, ◌++◌, vec_len, vec_capacity}
use Rattle.std.specs.VecDeque.{deque_len}
use Rattle.context_model.specs.Orders.{IsIn}
use Rattle.context_model.specs.KeyedMerge.{keys_of, merge_with, later}
use Rattle.counter_type.proofs.entries.merged.Given as goal

abbrev pub invariant-loop-news : goal.invariant-loop-news
invariant-loop-news g l = record {
  ours_fit : (key : _) → IsIn key (keys_of l.ours.items) → g.K.Keys.fits l.keys key;
  news_fit : (key : _) → IsIn key (keys_of l.news.items) → g.K.Keys.fits l.keys key;
  so_far : l.entries.items ++ merge_with (g.K.Keys.order l.keys) later l.ours.items l.news.items ≡ merge_with (g.K.Keys.order l.keys) later l.fn.ours.items l.fn.news.items;
  room : vec_len l.entries + (deque_len l.ours + deque_len l.news) ≤ vec_capacity l.entries;
}

abbrev pub decreases-loop-news : goal.decreases-loop-news
decreases-loop-news g l = deque_len l.ours + deque_len l.news
