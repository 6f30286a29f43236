use Rattle.std.proofs.Common.{refl, sym, ◌∙◌, arith}
use Rattle.header_text.proofs.Letters.{length_text}
use Rattle.header_calls.proofs.writing.to_header_into.Goals as goal

pub returns-then-room-size : goal.returns-then-room-size
returns-then-room-size c =
    let found = c.in_default.ensures.found in
    ((found.0, found.1), (c.text_len-size.ensures ∙ sym (length_text c.args.context.now), omega (arith, c.if-room-size.true), refl))
