use Rattle.std.proofs.Common.{◌+◌, drop, ap, sym, ◌∙◌, arith}
use Rattle.header_text.specs.Check.{after_bytes}
use Rattle.header_text.proofs.Checks.{next_byte, all_bytes}
use Rattle.header_text.proofs.check.crc32.Goals as goal

pub loop-byte-preserved : goal.loop-byte-preserved
loop-byte-preserved c =
    let bytes = c.args.bytes.now in
    let i = c.loop-byte.byte-index in
    ap (λ k. after_bytes k (drop (i + 1) bytes)) c.after_byte-crc.ensures ∙ sym (next_byte c.loop-byte.crc i bytes (omega arith)) ∙ c.loop-byte.invariant

pub returns : goal.returns
returns c = all_bytes c.loop-byte.crc c.loop-byte.byte-index c.args.bytes.now (omega arith) c.loop-byte.invariant
