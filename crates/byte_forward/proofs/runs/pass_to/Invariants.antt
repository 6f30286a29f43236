use Rattle.std.proofs.Common.{◌≡◌, ◌≤◌, List, length}
use Rattle.context_model.specs.Atoms.{Atom}
use Rattle.byte_frames.specs.Frames.{AreFramesOf}
use Rattle.byte_forward.specs.Runs.{IsRunPassed}
use Rattle.byte_forward.proofs.runs.pass_to.Given as goal

abbrev pub invariant-loop-frame : goal.invariant-loop-frame
invariant-loop-frame l = record {
  same : l.ahead ≡ l.behind;
  form : l.behind.form ≡ l.fn.frames.form;
  no_more : length l.behind.rest.now ≤ length l.fn.frames.rest.now;
  passed : (a b : List Atom) → AreFramesOf l.fn.frames a → IsRunPassed a l.other b l.behind;
}

abbrev pub decreases-loop-frame : goal.decreases-loop-frame
decreases-loop-frame l = length l.ahead.rest.now
