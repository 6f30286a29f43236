use Rattle.std.proofs.Common.{◌≡◌, length, take, slice_get, option_copied, Some, refl, ◌∙◌, sym, ap, arith}
use Rattle.context_model.specs.declared.Form.TheVariants.{One}
use Rattle.context_model.specs.Framing.{frames}
use Rattle.context_model.proofs.FramingLaws.{frames_len-next, frames_len-front, frames_lens, AreAtoms-take}
use Rattle.wire_bytes.proofs.Codings.{frames_any}
use Rattle.wire_bytes.proofs.writing.frames_before.Goals as goal

pub loop-i-init : goal.loop-i-init
loop-i-init c = record { sum = refl; bound = omega (arith, c.len-count.ensures.light, frames_lens c.args.list.now c.len-count.ensures.atoms) }

pub overflow_add-total : goal.overflow_add-total
overflow_add-total c = omega (arith, c.loop-i.invariant.sum, c.loop-i.invariant.bound, frames_len-front One c.loop-i.i c.args.list.now)

pub loop-i-preserved : goal.loop-i-preserved
loop-i-preserved c =
    let list = c.args.list.now in
    let atom = c.unwrap.result.now in
    let there : slice_get list c.loop-i.i ≡ Some atom = sym c.get.ensures.value ∙ ap option_copied c.unwrap.ensures in
    record {
      sum = omega (arith, c.loop-i.invariant.sum, c.frame_len.ensures.one, frames_len-next One list c.loop-i.i atom there);
      bound = c.loop-i.invariant.bound;
    }

pub returns-clause-frames : goal.returns-clause-frames
returns-clause-frames c = λ width. (
    let list = c.args.list.now in
    let all : c.loop-i.i ≡ c.args.at = omega arith in
    c.loop-i.invariant.sum ∙ ap (λ n. length (frames One (take n list))) all ∙ frames_any width (take c.args.at list) (AreAtoms-take c.args.at list c.len-count.ensures.atoms)
    )

pub returns-clause-bound : goal.returns-clause-bound
returns-clause-bound c = omega (arith, c.loop-i.invariant.sum, c.loop-i.invariant.bound, frames_len-front One c.loop-i.i c.args.list.now)

pub returns-in-Some-clause-frames : goal.returns-in-Some-clause-frames
returns-in-Some-clause-frames c = λ width. (
    let list = c.args.list.now in
    ap length c.in-Some.ensures ∙ frames_any width (take c.args.at list) (AreAtoms-take c.args.at list c.len-count.ensures.atoms)
    )

pub returns-in-Some-clause-bound : goal.returns-in-Some-clause-bound
returns-in-Some-clause-bound c =
    let list = c.args.list.now in
    omega (arith, ap length c.in-Some.ensures, c.len-count.ensures.light, frames_lens list c.len-count.ensures.atoms, frames_len-front One c.args.at list)
