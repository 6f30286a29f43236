use Rattle.std.proofs.Common.{◌≡◌, [], length, true, false, refl, sym, ap, ◌∙◌, subst, arith}
use Rattle.std.proofs.lemmas.Grind.{common_steps}
use Rattle.byte_frames.specs.declared.frames.Frames.{Frames}
use Rattle.byte_frames.specs.Frames.{AreFramesOf}
use Rattle.byte_forward.specs.Runs.{IsPassedTo}
use Rattle.byte_forward.proofs.RunSteps.{run_none, on_equal, on_less, on_to_end}
use Rattle.byte_forward.proofs.runs.pass_run.Goals as goal

pub loop-frame-init : goal.loop-frame-init
loop-frame-init c = record {
  same = refl;
  first_form = refl;
  second_form = refl;
  first_no_more = omega arith;
  second_no_more = omega arith;
  on = λ a b f g. record { run = []; a_left = a; b_left = b; first_frames = f; second_frames = g; goes = run_none a b };
}

pub returns-then-not-equal-clause-run : goal.returns-then-not-equal-clause-run
returns-then-not-equal-clause-run c = λ a b f g. (
    let inv = c.loop-frame.invariant in
    let on = inv.on a b f g in
    let next = c.in-Some.ensures.next on.b_left (subst (λ frames. AreFramesOf frames on.b_left) (sym inv.same) on.second_frames) in
    let y = c.in-Some.frame.atom.now in
    let unequal : c.pass_to-equal.result.1 ≡ false = grind (arith, common_steps) in
    let passed = c.pass_to-equal.ensures.passed on.a_left next.0 on.first_frames in
    on_less a b c.loop-frame.behind c.loop-frame.other on y next.0 c.next_frame.new.self c.pass_to-equal.result.0 next.1 next.3
    (subst (IsPassedTo on.a_left y next.0 c.pass_to-equal.result.0) unequal passed)
    )

pub loop-frame-preserved : goal.loop-frame-preserved
loop-frame-preserved c =
    let inv = c.loop-frame.invariant in
    let long = ap (λ (f : Frames). length f.rest.now) inv.same in
    let shorter = c.in-Some.ensures.shorter in
    let first_no_more = inv.first_no_more in
    let second_no_more = inv.second_no_more in
    let no_more = c.pass_to-equal.ensures.no_more in
    let equal : c.pass_to-equal.result.1 ≡ true = grind (arith, common_steps) in
    record {
      same = refl;
      first_form = c.pass_to-equal.ensures.form ∙ inv.first_form;
      second_form = c.in-Some.ensures.form ∙ ap (λ (f : Frames). f.form) inv.same ∙ inv.second_form;
      first_no_more = omega arith;
      second_no_more = omega arith;
      on = λ a b f g. (
          let on = inv.on a b f g in
          let next = c.in-Some.ensures.next on.b_left (subst (λ frames. AreFramesOf frames on.b_left) (sym inv.same) on.second_frames) in
          let y = c.in-Some.frame.atom.now in
          let passed = c.pass_to-equal.ensures.passed on.a_left next.0 on.first_frames in
          on_equal a b c.loop-frame.behind c.loop-frame.other on y next.0 c.next_frame.new.self c.pass_to-equal.result.0 next.1 next.3
          (subst (IsPassedTo on.a_left y next.0 c.pass_to-equal.result.0) equal passed)
          );
    }

pub returns-clause-run : goal.returns-clause-run
returns-clause-run c = λ a b f g. (
    let inv = c.loop-frame.invariant in
    let on = inv.on a b f g in
    let none = c.in_default.ensures.next on.b_left (subst (λ frames. AreFramesOf frames on.b_left) (sym inv.same) on.second_frames) in
    on_to_end a b c.loop-frame.behind c.loop-frame.other on _ refl none
    )
