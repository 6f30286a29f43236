use Rattle.std.proofs.Common.{inl, inr, length, ap, ◌∙◌, arith}
use Rattle.context_model.specs.Framing.{frames}
use Rattle.byte_forward.proofs.RunSteps.{behind_none, behind_known}
use Rattle.byte_forward.proofs.Walks.{of_some, of_none}
use Rattle.byte_forward.proofs.runs.pass_known_run.Goals as goal

pub returns-then-is_none-clause-run : goal.returns-then-is_none-clause-run
returns-then-is_none-clause-run c = λ a b f g next. (
    let none = of_none c.next_frame.result _ _ c.if-is_none.ensures (c.next_frame.ensures.next a f) in
    behind_none a b c.args.first c.args.second f g none
    )

pub returns-then-is_none-clause-less : goal.returns-then-is_none-clause-less
returns-then-is_none-clause-less c = λ a f. (
    let none = of_none c.next_frame.result _ _ c.if-is_none.ensures (c.next_frame.ensures.next a f) in
    inl (ap length (f.1 ∙ ap (frames c.args.first.form) none))
    )

pub returns-clause-run : goal.returns-clause-run
returns-clause-run c = λ a b f g next. (
    let found = of_some c.next_frame.result _ _ c.if-is_none.ensures (c.next_frame.ensures.next a f) in
    let step = found.1 in
    behind_known a b found.0.atom.now step.0 c.pass_run.result.0 c.pass_run.result.1 step.1 next (c.pass_run.ensures.run step.0 b step.3 g)
    )

pub returns-clause-less : goal.returns-clause-less
returns-clause-less c = λ a f. (
    let shorter = (of_some c.next_frame.result _ _ c.if-is_none.ensures c.next_frame.ensures.shorter).1 in
    let no_more = c.pass_run.ensures.first_no_more in
    inr (omega arith)
    )
