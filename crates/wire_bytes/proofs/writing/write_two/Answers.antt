use Rattle.std.proofs.Common.{◌≡◌, ◌++◌, length, take, slice_get, option_copied, Some, ◌∙◌, sym, ap, append_assoc, arith}
use Rattle.std.proofs.lemmas.List.{take_all}
use Rattle.context_model.specs.declared.Form.TheVariants.{Two}
use Rattle.context_model.specs.Framing.{head, frame, frames}
use Rattle.context_model.proofs.FramingLaws.{frames-next}
use Rattle.wire_bytes.proofs.writing.write_two.Goals as goal

pub loop-i-preserved : goal.loop-i-preserved
loop-i-preserved c =
    let list = c.args.list.now in
    let atom = c.unwrap.result.now in
    let there : slice_get list c.loop-i.i ≡ Some atom = sym c.get.ensures.value ∙ ap option_copied c.unwrap.ensures in
    let start = head Two c.frames_len-count.result in
    c.in_ok-put_frame.ensures ∙ ap (λ v. v ++ frame Two atom) c.loop-i.invariant ∙ append_assoc start (frames Two (take c.loop-i.i list)) (frame Two atom)
    ∙ ap (λ v. start ++ v) (sym (frames-next Two list c.loop-i.i atom there))

pub returns : goal.returns
returns c =
    let list = c.args.list.now in
    let all : take c.loop-i.i list ≡ list = take_all c.loop-i.i list (omega (arith, c.len-i-end.ensures.len)) in
    c.loop-i.invariant ∙ ap (λ n. head Two n ++ frames Two (take c.loop-i.i list)) (c.frames_len-count.ensures.frames Two) ∙ ap (λ v. head Two (length (frames Two list)) ++ frames Two v) all
