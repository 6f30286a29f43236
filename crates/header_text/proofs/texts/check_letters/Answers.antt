use Rattle.std.proofs.Common.{ℕ, ◌∙◌, ap, length, arith}
use Rattle.std.specs.Int.{to_be_bytes, w32}
use Rattle.base64.specs.Engines.{url_safe_no_pad}
use Rattle.base64.specs.GeneralPurpose.{encode_of}
use Rattle.base64.specs.Rfc4648.{unpadded_len}
use Rattle.header_text.proofs.Letters.{check_of, filled}
use Rattle.header_text.proofs.texts.check_letters.Goals as goal

pub returns : goal.returns
returns c =
    let check = c.to_be_bytes-check.result in
    let size : ℕ = unpadded_len (length check) in
    filled (encode_of url_safe_no_pad check) _ c.encode_slice.new.output size size c.encode_slice.result (c.encode_slice.ensures.fits (omega arith)) (omega arith) c.encode_slice.ensures.written
    ∙ check_of c.args.bytes.now check (c.to_be_bytes-check.ensures ∙ ap (to_be_bytes w32) c.crc32.ensures)
