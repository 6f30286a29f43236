use Rattle.std.proofs.Common.{◌≡◌, ◌++◌, take}
use Rattle.context_model.specs.declared.Form.TheVariants.{Two}
use Rattle.context_model.specs.Framing.{head, frames}
use Rattle.wire_bytes.proofs.writing.write_two.Given as goal

abbrev pub invariant-loop-i : goal.invariant-loop-i
invariant-loop-i l = l.bytes.items ≡ head Two l.count ++ frames Two (take l.i l.list)
