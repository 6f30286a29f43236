use Rattle.std.proofs.Common.{◌≡◌, drop}
use Rattle.header_text.specs.Check.{after_bytes}
use Rattle.header_text.proofs.check.crc32.Given as goal

-- The bytes that are left turn this check into that of all.
abbrev pub invariant-loop-byte : goal.invariant-loop-byte
invariant-loop-byte l = after_bytes l.crc (drop l.byte-index l.bytes) ≡ after_bytes 4294967295 l.bytes
