use Rattle.std.proofs.Common.{◌≡◌, drop, sym, ◌∙◌, ap, subst, arith}
use Rattle.std.proofs.Math.ListN.{drop_of_length-le}
use Rattle.std.proofs.lemmas.List.{take_rest}
use Rattle.context_model.specs.Framing.{head_len, form_of, frames, AreWithin}
use Rattle.context_model.proofs.Heads.{read_back}
use Rattle.byte_frames.proofs.frames.Frames.of.Goals as goal
use Rattle.byte_frames.proofs.frames.Frames.of.Goals.{in-Some, in-None}

pub returns : goal.returns
returns c = λ list own.
    let bytes = c.args.context.now in
    let form = c.form_of-form.result in
    let same : form_of bytes ≡ form = sym c.form_of-form.ensures in
    let read = read_back bytes list own.0 own.2 in
    let skip = c.head_len.result in
    let behind : drop skip bytes ≡ frames form list =
    ap (λ n. drop n bytes) c.head_len.ensures ∙ subst (λ width. drop (head_len width) bytes ≡ frames width list) same read.2 in (
      subst (λ width. AreWithin width list) same read.1,
      elim c.match-get.branch [
        | in-Some w ↦ ap (λ r. r.now) w.rest-is ∙ w.in-Some.ensures.lookup.0.2 ∙ take_rest bytes skip ∙ behind
        | in-None w ↦ (
            let short = w.in-None.ensures.lookup.0 in
            ap (λ r. r.now) w.rest-is ∙ sym (drop_of_length-le bytes (omega (arith, short))) ∙ behind
            )
      ],
    )
