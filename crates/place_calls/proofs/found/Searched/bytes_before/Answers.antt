use Rattle.std.proofs.Common.{arith}
use Rattle.context_model.specs.declared.Form.TheVariants.{Two}
use Rattle.context_model.proofs.FramingLaws.{frames_len-front}
use Rattle.place_calls.proofs.Offsets.{head_short, offset_by_two}
use Rattle.place_calls.proofs.found.Searched.bytes_before.Goals as goal

pub overflow_cast-after_head : goal.overflow_cast-after_head
overflow_cast-after_head c =
    let front = frames_len-front Two c.args.place c.args.self.now.list.now in
    omega (arith, c.offset.ensures, c.len-count.ensures.light, front)

pub overflow_add-result : goal.overflow_add-result
overflow_add-result c =
    let front = frames_len-front Two c.args.place c.args.self.now.list.now in
    let short = head_short c.args.self.now.form in
    omega (arith, c.offset.ensures, c.head_len-2.ensures, c.len-count.ensures.light, front, short)

pub returns : goal.returns
returns c =
    let by_two = offset_by_two c.args.self.now.form c.args.self.now.list.now c.args.place c.len-count.ensures.atoms c.requires.searched.written in
    omega (arith, c.offset.ensures, c.head_len.ensures, c.head_len-2.ensures, by_two)
