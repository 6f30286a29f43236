use Rattle.std.proofs.Common.{◌≡◌, string_bytes}
use Rattle.text_carrier.proofs.Cutting.{first_lines}
use Rattle.text_carrier.proofs.carrying.carry.Given as goal

abbrev pub invariant-loop-place : goal.invariant-loop-place
invariant-loop-place l = string_bytes l.text ≡ first_lines l.width l.bytes l.place
