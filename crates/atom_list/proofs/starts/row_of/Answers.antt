use Rattle.std.proofs.Common.{◌≡◌, ◌+◌, length, get_or, sym, ◌∙◌, ap, subst, arith}
use Rattle.std.proofs.lemmas.Option.{get_or_from_slice_get}
use Rattle.context_model.specs.declared.Form.TheVariants.{One}
use Rattle.context_model.specs.Framing.{frame}
use Rattle.atom_list.specs.Starts.{atom_framed_at, IsFrameRow}
use Rattle.atom_list.proofs.Rows.{row_none, row_more}
use Rattle.atom_list.proofs.starts.row_of.Goals as goal

pub loop-count-init : goal.loop-count-init
loop-count-init c =
    row_none c.args.bytes.now c.args.starts.now c.in-Some.first.now (sym (get_or_from_slice_get c.args.starts.now 0 c.in-Some.first.now 0 (sym c.in-Some.ensures.value)))

pub returns-then-start-end-clause-row : goal.returns-then-start-end-clause-row
returns-then-start-end-clause-row c = c.loop-count.invariant

pub loop-count-preserved : goal.loop-count-preserved
loop-count-preserved c =
    let end = c.loop-count.end in
    let next : get_or c.args.starts.now c.loop-count.count 0 ≡ end = c.if-start-end.false in
    let ends : c.frame_end-end.result ≡ end + length (frame One (atom_framed_at c.args.bytes.now end)) = c.frame_end-end.ensures.end ∙ ap (λ n. n + length (frame One (atom_framed_at c.args.bytes.now n))) next in
    row_more c.args.bytes.now c.args.starts.now c.loop-count.count end c.frame_end-end.result c.requires c.loop-count.invariant c.loop-count-test.true next c.if-bytes-end.false ends c.frame_end-end.ensures.within

pub returns-clause-row : goal.returns-clause-row
returns-clause-row c =
    let all : c.loop-count.count ≡ length c.args.starts.now = omega arith in
    subst (λ n. IsFrameRow c.args.bytes.now c.args.starts.now n c.loop-count.end) all c.loop-count.invariant
