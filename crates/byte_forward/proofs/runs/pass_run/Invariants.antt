use Rattle.std.proofs.Common.{◌≡◌, ◌≤◌, List, length}
use Rattle.context_model.specs.Atoms.{Atom}
use Rattle.byte_frames.specs.Frames.{AreFramesOf}
use Rattle.byte_forward.proofs.RunSteps.{IsOnRun}
use Rattle.byte_forward.proofs.runs.pass_run.Given as goal

abbrev pub invariant-loop-frame : goal.invariant-loop-frame
invariant-loop-frame l = record {
  same : l.ahead ≡ l.other;
  first_form : l.behind.form ≡ l.fn.first.form;
  second_form : l.other.form ≡ l.fn.second.form;
  first_no_more : length l.behind.rest.now ≤ length l.fn.first.rest.now;
  second_no_more : length l.other.rest.now ≤ length l.fn.second.rest.now;
  on : (a b : List Atom) → AreFramesOf l.fn.first a → AreFramesOf l.fn.second b → IsOnRun a b l.behind l.other;
}

abbrev pub decreases-loop-frame : goal.decreases-loop-frame
decreases-loop-frame l = length l.ahead.rest.now
