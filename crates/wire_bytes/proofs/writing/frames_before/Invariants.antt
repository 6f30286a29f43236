use Rattle.std.proofs.Common.{◌≡◌, ◌^◌, ◌<◌, take, length}
use Rattle.context_model.specs.declared.Form.TheVariants.{One}
use Rattle.context_model.specs.Framing.{frames}
use Rattle.wire_bytes.proofs.writing.frames_before.Given as goal

abbrev pub invariant-loop-i : goal.invariant-loop-i
invariant-loop-i l = record {
  sum : l.total ≡ length (frames One (take l.i l.list));
  bound : length (frames One l.list) < 2 ^ 32;
}
