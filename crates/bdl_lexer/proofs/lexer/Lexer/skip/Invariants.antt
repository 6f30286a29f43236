use Rattle.std.proofs.Common.{◌≡◌, ◌+◌, ◌≤◌, take}
use Rattle.bdl_lexer.specs.Places.{place_behind}
use Rattle.bdl_lexer.proofs.lexer.Lexer.skip.Given as goal

abbrev pub invariant-loop-byte : goal.invariant-loop-byte
invariant-loop-byte l = record {
  place : l.place ≡ place_behind l.self.place (take l.byte-index l.text);
  at : l.place.at ≡ l.self.place.at + l.byte-index;
  line : l.place.line ≤ l.place.at + 1;
  column : l.place.column ≤ l.place.at + 1;
}
