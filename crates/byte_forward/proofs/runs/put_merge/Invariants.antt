use Rattle.std.proofs.Common.{◌≡◌, ◌+◌, ◌≤◌, List, length}
use Rattle.context_model.specs.Atoms.{Atom}
use Rattle.byte_frames.specs.Frames.{AreFramesOf}
use Rattle.byte_forward.specs.Runs.{IsMergedTo}
use Rattle.byte_forward.proofs.runs.put_merge.Given as goal

abbrev pub invariant-loop-second : goal.invariant-loop-second
invariant-loop-second l = record {
  first_form : l.first.form ≡ l.fn.first.form;
  second_form : l.second.form ≡ l.fn.first.form;
  place : l.at + (length l.first.rest.now + length l.second.rest.now) ≤ length l.room;
  merged : (a b : List Atom) → AreFramesOf l.fn.first a → AreFramesOf l.fn.second b → IsMergedTo l.fn.first.form a b l.first l.second l.at l.initial.room l.room;
}

abbrev pub decreases-loop-second : goal.decreases-loop-second
decreases-loop-second l = length l.second.rest.now
