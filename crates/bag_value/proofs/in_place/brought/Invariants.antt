use Rattle.bag_value.proofs.Placing.{IsJoinedTo}
use Rattle.bag_value.proofs.in_place.brought.Given as goal

abbrev pub invariant-loop-at : goal.invariant-loop-at
invariant-loop-at l = IsJoinedTo l.ours l.theirs l.news.items l.at
