use Rattle.std.proofs.Common.{sym, subst, arith}
use Rattle.keep_calls.specs.declared.others.Others.{Others}
use Rattle.keep_calls.specs.Walk.{IsSomeTold}
use Rattle.keep_calls.proofs.Steps.{told_unsaid}
use Rattle.keep_calls.proofs.gaps.is_told.Goals as goal

pub returns-in-Unsaid : goal.returns-in-Unsaid
returns-in-Unsaid c =
    let t = told_unsaid c.args.table.now c.args.list.now c.args.from c.args.to c.requires.gap.within in
    let P = λ (others : Others). IsSomeTold others c.args.table.now c.args.list.now c.args.from c.args.to in
    ((λ b. subst P (sym c.in-Unsaid.is) (t.0 (c.has_marker.ensures.0 b))), λ s. c.has_marker.ensures.1 (t.1 (subst P c.in-Unsaid.is s)))

pub returns-then-from-to : goal.returns-then-from-to
returns-then-from-to c = ((λ b. cc), λ t. absurd (omega (arith, t.from_on, t.up_to, c.if-from-to.true)))
