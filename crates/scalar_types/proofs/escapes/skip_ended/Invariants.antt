use Rattle.std.proofs.Common.{ℕ, List, length}
use Rattle.bag_model.specs.Scalars.{terminated}
use Rattle.scalar_types.specs.Fronts.{Begins, BeginsWithSome}
use Rattle.scalar_types.specs.Escapes.{FitsOpen}
use Rattle.scalar_types.proofs.escapes.skip_ended.Given as goal

abbrev pub invariant-loop-piece : goal.invariant-loop-piece
invariant-loop-piece l = record {
  back : (v t : List ℕ) → Begins (FitsOpen l.is_text) terminated l.rest v t → (w : List ℕ) × Begins (FitsOpen l.is_text) terminated l.bytes w t;
  forth : BeginsWithSome (FitsOpen l.is_text) terminated l.bytes → BeginsWithSome (FitsOpen l.is_text) terminated l.rest;
}

abbrev pub decreases-loop-piece : goal.decreases-loop-piece
decreases-loop-piece l = length l.rest
