use Rattle.wire_bytes.specs.Reading.{code_of}
use Rattle.byte_frames.proofs.Taking.{cut_frame, shorter, stands_first, none_left}
use Rattle.byte_frames.proofs.frames.Frames.next_frame.Goals as goal

pub returns-in_default-clause-next : goal.returns-in_default-clause-next
returns-in_default-clause-next c = λ list left.
    none_left c.args.self.now.form c.args.self.now.rest.now (code_of c.in_default.field-0) list c.in_default.ensures.fault left.0 left.1

pub returns-clause-next : goal.returns-clause-next
returns-clause-next c = λ list left.
    let found = c.in-Ok.ensures in
    let parts = c.split_at.ensures in
    let front = cut_frame c.args.self.now.form c.args.self.now.rest.now _ _ c.in-Ok.skip c.in-Ok.len found.within found.short found.code parts.front parts.back in
    let first = stands_first c.args.self.now.form c.args.self.now.rest.now _ _ list front.fits front.split left.0 left.1 in
    (first.0, first.1, front.framed, (first.2, first.3))

pub returns-clause-shorter : goal.returns-clause-shorter
returns-clause-shorter c =
    let found = c.in-Ok.ensures in
    let parts = c.split_at.ensures in
    let front = cut_frame c.args.self.now.form c.args.self.now.rest.now _ _ c.in-Ok.skip c.in-Ok.len found.within found.short found.code parts.front parts.back in
    shorter c.args.self.now.form c.args.self.now.rest.now _ _ front.split
