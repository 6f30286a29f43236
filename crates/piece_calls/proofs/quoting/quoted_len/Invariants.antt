use Rattle.std.proofs.Common.{◌≡◌, ◌+◌, ◌*◌, ◌≤◌, length, take}
use Rattle.std.specs.List.{flat_map}
use Rattle.text_model.specs.ScalarTexts.{escaped}
use Rattle.piece_calls.proofs.quoting.quoted_len.Given as goal

abbrev pub invariant-loop-byte : goal.invariant-loop-byte
invariant-loop-byte l = record {
  len : l.len ≡ 2 + length (flat_map escaped (take l.byte-index l.bytes));
  few : l.len ≤ 2 + 4 * l.byte-index;
}
