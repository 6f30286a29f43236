use Rattle.std.proofs.Common.{◌+◌, ◌≤◌, length, arith}
use Rattle.atom_list.proofs.Frames.{length_at}
use Rattle.atom_list.proofs.starts.frame_end.Goals as goal

-- The frame is within the buffer.
within : (c : goal.After-length_at-skip) → c.args.start + c.length_at-skip.result.0 + c.length_at-skip.result.1 ≤ length c.args.bytes.now
within c =
    let at = length_at c.args.bytes.now c.args.start c.requires in
    omega (arith, at.within, at.code, at.says, c.length_at-skip.ensures.bytes, c.length_at-skip.ensures.length)

pub overflow_add-result : goal.overflow_add-result
overflow_add-result c = omega (arith, within c)

pub overflow_add-result-2 : goal.overflow_add-result-2
overflow_add-result-2 c = omega (arith, within c)

pub returns-clause-end : goal.returns-clause-end
returns-clause-end c =
    let at = length_at c.args.bytes.now c.args.start c.requires in
    omega (arith, at.framed, at.code, at.says, c.length_at-skip.ensures.bytes, c.length_at-skip.ensures.length)

pub returns-clause-within : goal.returns-clause-within
returns-clause-within c = within c
