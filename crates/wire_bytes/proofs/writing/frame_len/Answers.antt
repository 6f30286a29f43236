use Rattle.std.proofs.Common.{length, length-append, ◌∙◌, arith}
use Rattle.context_model.specs.Framing.{base_128}
use Rattle.context_model.proofs.FramingLaws.{frame_lens}
use Rattle.wire_bytes.proofs.writing.frame_len.Goals as goal

pub returns-clause-one : goal.returns-clause-one
returns-clause-one c = omega (arith, c.length_len.ensures.len, length-append (base_128 (length c.args.atom.now)) c.args.atom.now)

pub returns-clause-two : goal.returns-clause-two
returns-clause-two c = returns-clause-one c ∙ frame_lens c.args.atom.now c.requires
