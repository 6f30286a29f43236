use Rattle.std.proofs.Common.{get_or, subst, arith}
use Rattle.std.proofs.lemmas.Option.{slice_get-get_or, get_or_from_slice_get}
use Rattle.write_proof.specs.Marks.{IsMarked}
use Rattle.write_proof.proofs.BelowCalls.{in_place, place_in, place_within, yes_answer, no_answer}
use Rattle.write_proof.proofs.whole_rules.has_unmarked.Goals as goal

pub returns-then-not-is_marked : goal.returns-then-not-is_marked
returns-then-not-is_marked c =
    let steps = c.args.steps.now in
    let i = c.loop-step.step-index in
    yes_answer (get_or steps i 0, place_in (get_or steps i 0) steps i (slice_get-get_or steps i 0 c.loop-step-test.true), λ m. let bad = c.if-not-is_marked.ensures.1 m in cc bad)

pub returns : goal.returns
returns c =
    let steps = c.args.steps.now in
    no_answer (λ s.
    let p = in_place s.0 steps s.1 in
    let within = place_within s.0 steps p.0 p.1 in
    s.2 (subst (IsMarked c.args.marks.now) (get_or_from_slice_get steps p.0 s.0 0 p.1) (c.loop-step.invariant p.0 (omega (arith, within, c.loop-step-test.false)))))
