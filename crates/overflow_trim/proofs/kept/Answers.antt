use Rattle.std.proofs.Common.{◌≡◌, ◌+◌, take, slice_get, Some, option_copied, sym, ◌∙◌, ap, arith}
use Rattle.std.proofs.lemmas.List.{take_all}
use Rattle.context_model.specs.declared.Form.TheVariants.{One}
use Rattle.context_model.specs.Framing.{head_len, written_in, size_of}
use Rattle.context_model.proofs.FramingLaws.{frames_lens, frames_len-front}
use Rattle.context_model.proofs.TrimmedLaws.{kept_of-fits}
use Rattle.overflow_trim.proofs.Overs.{head_len-le, size_front, head_more, count_more, room_left, no_room}
use Rattle.overflow_trim.proofs.kept.Goals as goal

-- The whole list fits.
pub returns-then-fits : goal.returns-then-fits
returns-then-fits c = c.len.ensures.len ∙ sym (kept_of-fits c.args.form c.args.list.now c.args.budget (c.fits.ensures.0 c.if-fits.true))

pub loop-at-init : goal.loop-at-init
loop-at-init c =
    let found = c.front_within-start.ensures in
    let narrow = c.frames_room.ensures.form c.front_within-start.result.0 (omega (arith, found.frames, found.fits)) in
    record {
      atoms = c.len-at-end.ensures.atoms;
      light = omega (arith, c.len-at-end.ensures.light, frames_lens c.args.list.now c.len-at-end.ensures.atoms);
      head = c.of-front.ensures.head ∙ ap head_len (sym narrow);
      frames = c.of-front.ensures.frames ∙ found.frames;
      fits = omega (arith, c.of-front.ensures.head, c.of-front.ensures.frames, found.fits, c.frames_room.ensures.fits);
    }

pub with-next-requires-clause-frames : goal.with-next-requires-clause-frames
with-next-requires-clause-frames c = omega (arith, c.loop-at.invariant.light, c.loop-at.invariant.frames, frames_len-front One c.loop-at.at c.args.list.now)

pub size-requires : goal.size-requires
size-requires c =
    let list = c.args.list.now in
    let atom = c.unwrap.result.now in
    let there : slice_get list c.loop-at.at ≡ Some atom = sym c.get.ensures.value ∙ ap option_copied c.unwrap.ensures in
    let head = head_more c.args.form list c.loop-at.at atom c.loop-at.front.head c.with-next.result.head c.loop-at.front.frames c.with-next.result.frames
    c.loop-at.invariant.atoms there c.loop-at.invariant.head c.loop-at.invariant.frames c.with-next.ensures.head c.with-next.ensures.frames in
    let count = count_more c.args.form list c.loop-at.at atom c.loop-at.front.head c.with-next.result.head c.loop-at.front.frames c.with-next.result.frames
    c.loop-at.invariant.atoms there c.loop-at.invariant.head c.loop-at.invariant.frames c.with-next.ensures.head c.with-next.ensures.frames in
    omega (arith, head, count, head_len-le (written_in c.args.form (take (c.loop-at.at + 1) list)), c.loop-at.invariant.light, frames_len-front One (c.loop-at.at + 1) list)

pub returns-then-size-budget : goal.returns-then-size-budget
returns-then-size-budget c =
    room_left c.args.form c.args.list.now c.loop-at.at c.unwrap.result.now c.loop-at.front.head c.with-next.result.head c.loop-at.front.frames c.with-next.result.frames
    c.loop-at.invariant.atoms (sym c.get.ensures.value ∙ ap option_copied c.unwrap.ensures) c.loop-at.invariant.head c.loop-at.invariant.frames c.with-next.ensures.head c.with-next.ensures.frames
    c.args.budget c.requires c.loop-at.invariant.fits (omega (arith, c.size.ensures)) (omega (arith, c.size-then-budget-size.ensures))

pub returns-else-size-budget : goal.returns-else-size-budget
returns-else-size-budget c =
    no_room c.args.form c.args.list.now c.loop-at.at c.unwrap.result.now c.loop-at.front.head c.with-next.result.head c.loop-at.front.frames c.with-next.result.frames
    c.loop-at.invariant.atoms (sym c.get.ensures.value ∙ ap option_copied c.unwrap.ensures) c.loop-at.invariant.head c.loop-at.invariant.frames c.with-next.ensures.head c.with-next.ensures.frames
    c.args.budget c.requires c.loop-at.invariant.fits (omega (arith, c.size.ensures)) (omega (arith, c.size-then-budget-size.ensures))

pub loop-at-preserved : goal.loop-at-preserved
loop-at-preserved c =
    let there : slice_get c.args.list.now c.loop-at.at ≡ Some c.unwrap.result.now = sym c.get.ensures.value ∙ ap option_copied c.unwrap.ensures in
    record {
      atoms = c.loop-at.invariant.atoms;
      light = c.loop-at.invariant.light;
      head = head_more c.args.form c.args.list.now c.loop-at.at c.unwrap.result.now c.loop-at.front.head c.with-next.result.head c.loop-at.front.frames c.with-next.result.frames
          c.loop-at.invariant.atoms there c.loop-at.invariant.head c.loop-at.invariant.frames c.with-next.ensures.head c.with-next.ensures.frames;
      frames = count_more c.args.form c.args.list.now c.loop-at.at c.unwrap.result.now c.loop-at.front.head c.with-next.result.head c.loop-at.front.frames c.with-next.result.frames
          c.loop-at.invariant.atoms there c.loop-at.invariant.head c.loop-at.invariant.frames c.with-next.ensures.head c.with-next.ensures.frames;
      fits = omega (arith, c.size.ensures);
    }

pub returns : goal.returns
returns c =
    let list = c.args.list.now in
    let all : take c.loop-at.at list ≡ list = take_all c.loop-at.at list (omega (arith, c.len-at-end.ensures.len)) in
    let own = size_front c.args.form list c.loop-at.at c.loop-at.front.head c.loop-at.front.frames c.loop-at.invariant.atoms c.loop-at.invariant.head c.loop-at.invariant.frames in
    let whole : size_of c.args.form (take c.loop-at.at list) ≡ size_of c.args.form list = ap (size_of c.args.form) all in
    c.len-2.ensures.len ∙ sym (kept_of-fits c.args.form list c.args.budget (omega (arith, c.loop-at.invariant.fits)))
