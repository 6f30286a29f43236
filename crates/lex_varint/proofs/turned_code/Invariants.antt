use Rattle.std.proofs.Common.{◌≡◌, ◌-◌, ◌++◌, map, take, drop, length}
use Rattle.lex_varint.proofs.turned_code.Given as goal

abbrev pub invariant-loop-byte : goal.invariant-loop-byte
invariant-loop-byte l = record {
  long : length l.initial.byte-items ≡ 9;
  done : l.byte-items ≡ map (λ b. 255 - b) (take l.byte-index l.initial.byte-items) ++ drop l.byte-index l.initial.byte-items;
}
