use Rattle.std.proofs.Common.{◌≡◌, ◌+◌, ◌≤◌, ◌++◌, map, vec_len, vec_capacity}
use Rattle.std.specs.VecDeque.{deque_len}
use Rattle.bag_value.specs.Vals.{pair_of}
use Rattle.bag_value.proofs.Merging.{rest_placed}
use Rattle.bag_value.proofs.merges.merged.Given as goal

abbrev pub invariant-loop-news : goal.invariant-loop-news
invariant-loop-news l = record {
  so_far : map pair_of l.entries.items ++ rest_placed l.ours.items l.news.items ≡ rest_placed l.fn.ours.items l.fn.news.items;
  room : vec_len l.entries + (deque_len l.ours + deque_len l.news) ≤ vec_capacity l.entries;
}

abbrev pub decreases-loop-news : goal.decreases-loop-news
decreases-loop-news l = deque_len l.ours + deque_len l.news
