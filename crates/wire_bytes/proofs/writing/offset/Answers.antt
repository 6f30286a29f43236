use Rattle.std.proofs.Common.{◌∙◌, ap, arith}
use Rattle.context_model.specs.Framing.{written_in, head_len}
use Rattle.wire_bytes.proofs.writing.offset.Goals as goal

pub returns : goal.returns
returns c =
    let head = c.head_len.ensures ∙ ap head_len c.written_in.ensures in
    omega (arith, c.frames_before.ensures.frames (written_in c.args.form c.args.list.now))
