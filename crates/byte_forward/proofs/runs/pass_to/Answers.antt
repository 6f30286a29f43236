use Rattle.std.proofs.Common.{[], ◌∷◌, length, refl, sym, ap, ◌∙◌, subst, arith}
use Rattle.byte_frames.specs.declared.frames.Frames.{Frames}
use Rattle.byte_frames.specs.Frames.{AreFramesOf}
use Rattle.byte_forward.proofs.RunSteps.{run_none, passed_none, passed_less, passed_equal, passed_greater}
use Rattle.byte_forward.proofs.runs.pass_to.Goals as goal

pub loop-frame-init : goal.loop-frame-init
loop-frame-init c = record {
  same = refl;
  form = refl;
  no_more = omega arith;
  passed = λ a b f. record { run = []; left = a; frames = f; goes = run_none a (c.args.other.now ∷ b) };
}

pub loop-frame-preserved : goal.loop-frame-preserved
loop-frame-preserved c =
    let inv = c.loop-frame.invariant in
    let long = ap (λ (f : Frames). length f.rest.now) inv.same in
    let shorter = c.in-Some.ensures.shorter in
    let no_more = inv.no_more in
    record {
      same = refl;
      form = c.in-Some.ensures.form ∙ ap (λ (f : Frames). f.form) inv.same ∙ inv.form;
      no_more = omega arith;
      passed = λ a b f. (
          let p = inv.passed a b f in
          let next = c.in-Some.ensures.next p.left (subst (λ frames. AreFramesOf frames p.left) (sym inv.same) p.frames) in
          passed_less a c.args.other.now b c.loop-frame.behind c.next_frame.new.self p c.in-Some.frame.atom.now next.0 next.1 next.3 (sym c.compare.ensures ∙ c.in-Less.is)
          );
    }

pub returns-in-Equal-clause-form : goal.returns-in-Equal-clause-form
returns-in-Equal-clause-form c =
    let inv = c.loop-frame.invariant in
    c.in-Some.ensures.form ∙ ap (λ (f : Frames). f.form) inv.same ∙ inv.form

pub returns-in-Equal-clause-passed : goal.returns-in-Equal-clause-passed
returns-in-Equal-clause-passed c = λ a b f. (
    let inv = c.loop-frame.invariant in
    let p = inv.passed a b f in
    let next = c.in-Some.ensures.next p.left (subst (λ frames. AreFramesOf frames p.left) (sym inv.same) p.frames) in
    passed_equal a c.args.other.now b c.loop-frame.behind c.next_frame.new.self p c.in-Some.frame.atom.now next.0 next.1 next.3 (sym c.compare.ensures ∙ c.in-Equal.is)
    )

pub returns-in-Equal-clause-no_more : goal.returns-in-Equal-clause-no_more
returns-in-Equal-clause-no_more c =
    let inv = c.loop-frame.invariant in
    let long = ap (λ (f : Frames). length f.rest.now) inv.same in
    let shorter = c.in-Some.ensures.shorter in
    let no_more = inv.no_more in
    omega arith

pub returns-in-Greater-clause-passed : goal.returns-in-Greater-clause-passed
returns-in-Greater-clause-passed c = λ a b f. (
    let inv = c.loop-frame.invariant in
    let p = inv.passed a b f in
    let next = c.in-Some.ensures.next p.left (subst (λ frames. AreFramesOf frames p.left) (sym inv.same) p.frames) in
    passed_greater a c.args.other.now b c.loop-frame.behind c.next_frame.new.self p c.in-Some.frame.atom.now next.0 next.1 next.3 (sym c.compare.ensures ∙ c.in-Greater.is)
    )

pub returns-clause-passed : goal.returns-clause-passed
returns-clause-passed c = λ a b f. (
    let inv = c.loop-frame.invariant in
    let p = inv.passed a b f in
    let none = c.in_default.ensures.next p.left (subst (λ frames. AreFramesOf frames p.left) (sym inv.same) p.frames) in
    passed_none a c.args.other.now b c.loop-frame.behind c.loop-frame.behind p none
    )
