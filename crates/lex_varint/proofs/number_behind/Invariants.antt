use Rattle.std.proofs.Common.{◌≡◌, ◌/◌, ◌^◌, take}
use Rattle.context_model.specs.Varints.{big_endian}
use Rattle.lex_varint.specs.Readings.{turned}
use Rattle.lex_varint.proofs.number_behind.Given as goal

abbrev pub invariant-loop-byte : goal.invariant-loop-byte
invariant-loop-byte l = record {
  low : big_endian l.byte-index l.number ≡ turned l.negative (take l.byte-index l.bytes);
  high : l.number / 256 ^ l.byte-index ≡ l.high;
}
