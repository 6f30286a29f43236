use Rattle.std.proofs.Common.{◌≡◌, ◌+◌, drop}
use Rattle.bag_codec.proofs.Rooms.{packed}
use Rattle.scalar_types.proofs.PackedSteps.{Fit}
use Rattle.bag_codec.proofs.lengths.behind_fields.Given as goal

abbrev pub invariant-loop-at : goal.invariant-loop-at
invariant-loop-at l = record {
  fit : Fit (drop l.at l.words) (drop l.at l.scalars);
  left : packed l.words l.scalars + l.left ≡ l.fn.room + packed (drop l.at l.words) (drop l.at l.scalars);
}
