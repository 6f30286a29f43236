use Rattle.std.proofs.Common.{◌≡◌, length}
use Rattle.std.specs.VecDeque.{deque_len}
use Rattle.bag_value.specs.InPlace.{with_news, AreForFields}
use Rattle.bag_value.proofs.in_place.put_in_place.Given as goal

abbrev pub invariant-loop-at : goal.invariant-loop-at
invariant-loop-at l = record {
  fields : AreForFields (length l.values.items) l.news.items;
  so_far : with_news l.values.items l.news.items ≡ with_news l.fn.values.items l.fn.news.items;
}

abbrev pub decreases-loop-at : goal.decreases-loop-at
decreases-loop-at l = deque_len l.news
