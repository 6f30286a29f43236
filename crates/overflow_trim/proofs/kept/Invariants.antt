use Rattle.std.proofs.Common.{◌≡◌, ◌+◌, ◌^◌, ◌<◌, ◌≤◌, length, take}
use Rattle.context_model.specs.declared.Form.TheVariants.{One}
use Rattle.context_model.specs.Atoms.{AreAtoms}
use Rattle.context_model.specs.Framing.{frames, head_len, written_in}
use Rattle.overflow_trim.proofs.kept.Given as goal

abbrev pub invariant-loop-at : goal.invariant-loop-at
invariant-loop-at l = record {
  atoms : AreAtoms l.list;
  light : length (frames One l.list) < 2 ^ 32;
  head : l.front.head ≡ head_len (written_in l.fn.form (take l.at l.list));
  frames : l.front.frames ≡ length (frames One (take l.at l.list));
  fits : l.front.head + l.front.frames ≤ l.budget;
}
