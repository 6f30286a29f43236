use Rattle.std.proofs.Common.{◌≡◌, ℕ, List, ◌++◌, length}
use Rattle.bag_model.specs.Scalars.{terminated}
use Rattle.scalar_types.specs.Codec.{AlwaysFits}
use Rattle.scalar_types.specs.Fronts.{BeginsWithSome}
use Rattle.scalar_types.proofs.escapes.take_ended.Given as goal

abbrev pub invariant-loop-piece : goal.invariant-loop-piece
invariant-loop-piece l = record {
  back : (v t : List ℕ) → terminated v ++ t ≡ l.rest → terminated (l.field.items ++ v) ++ t ≡ l.bytes;
  forth : BeginsWithSome AlwaysFits terminated l.bytes → BeginsWithSome AlwaysFits terminated l.rest;
}

abbrev pub decreases-loop-piece : goal.decreases-loop-piece
decreases-loop-piece l = length l.rest
