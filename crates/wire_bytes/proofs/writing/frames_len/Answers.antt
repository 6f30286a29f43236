use Rattle.std.proofs.Common.{length, ◌∙◌, ap, arith}
use Rattle.context_model.specs.declared.Form.TheVariants.{Two}
use Rattle.wire_bytes.proofs.Codings.{frames_any}
use Rattle.wire_bytes.proofs.writing.frames_len.Goals as goal

pub returns-in-Some-clause-frames : goal.returns-in-Some-clause-frames
returns-in-Some-clause-frames c = λ width. ap length c.in-Some.ensures ∙ frames_any width c.args.list.now c.len-count.ensures.atoms

pub returns-in-Some-clause-bound : goal.returns-in-Some-clause-bound
returns-in-Some-clause-bound c = omega (arith, returns-in-Some-clause-frames c Two, c.len-count.ensures.light)
