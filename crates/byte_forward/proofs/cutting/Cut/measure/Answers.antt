use Rattle.std.proofs.Common.{[], sym, ap, ◌∙◌, subst, arith}
use Rattle.context_model.specs.Framing.{size_of, written_in}
use Rattle.byte_forward.specs.Cutting.{IsUnderWay}
use Rattle.byte_forward.proofs.Walks.{walk_on, walk_end, of_some, of_none}
use Rattle.byte_forward.proofs.cutting.Cut.measure.Goals as goal

pub loop-smaller : goal.loop-smaller
loop-smaller c =
    let w = c.loop.invariant in
    let next = of_some c.take.result _ _ (sym c.loop-test.ensures) (c.take.ensures.next w.past w.left w.under_way) in
    next.1.4

pub loop-preserved : goal.loop-preserved
loop-preserved c =
    let w = c.loop.invariant in
    let next = of_some c.take.result _ _ (sym c.loop-test.ensures) (c.take.ensures.next w.past w.left w.under_way) in
    walk_on c.args.self c.loop.cut c.take.new.self w next.0.frame.atom.now next.1.0 c.take.ensures.form c.take.ensures.budget next.1.1 next.1.3

pub overflow_sub-result : goal.overflow_sub-result
overflow_sub-result c =
    let w = c.loop.invariant in
    let ended = of_none c.take.result _ _ (sym c.loop-test.ensures) (c.take.ensures.next w.past w.left w.under_way) in
    omega (arith, ended.2, w.under_way.size, c.take.ensures.budget)

pub returns : goal.returns
returns c =
    let w = c.loop.invariant in
    let ended = of_none c.take.result _ _ (sym c.loop-test.ensures) (c.take.ensures.next w.past w.left w.under_way) in
    let size = ap (λ form. size_of form w.past) w.form in (
      w.past,
      subst (IsUnderWay [] c.args.self) (walk_end c.args.self c.loop.cut w ended.0) w.begun,
      omega (arith, ended.2, w.under_way.size, c.take.ensures.budget, size),
      ended.1 ∙ w.under_way.written ∙ ap (λ form. written_in form w.past) w.form,
    )
