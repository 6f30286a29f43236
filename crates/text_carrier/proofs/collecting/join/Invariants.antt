use Rattle.std.proofs.Common.{◌≡◌, ◌≤◌, length, map, take}
use Rattle.text_carrier.specs.declared.TheConstants.{CARRIED_MAX}
use Rattle.text_carrier.specs.Views.{all_bytes}
use Rattle.text_carrier.proofs.collecting.join.Given as goal

abbrev pub invariant-loop-text : goal.invariant-loop-text
invariant-loop-text l = record {
  joined : l.bytes.items ≡ all_bytes (map (λ text. text.now) (take l.text-index l.texts));
  few : length l.bytes.items ≤ CARRIED_MAX;
}
