use Rattle.std.proofs.Common.{List, ℕ, get_or, refl, subst, arith}
use Rattle.context_model.specs.Orders.{IsIn}
use Rattle.recorded_graph.specs.Plain.{step_of}
use Rattle.recorded_graph.specs.Graphs.{MayHaveParent}
use Rattle.recorded_graph.proofs.Parents.{in_at, at_in}
use Rattle.recorded_graph.proofs.graphs.Graph.may_have_parents.Goals as goal

pub returns-then-not-may_have_parent : goal.returns-then-not-may_have_parent
returns-then-not-may_have_parent c =
    let items = c.parents-parent-items.result.now in
    let k = c.loop-parent.parent-index in (
      (λ no. absurd (cc no)),
      λ all. c.if-not-may_have_parent.ensures.1
          (all (get_or items k 0) (subst (λ (l : List ℕ). IsIn (get_or items k 0) l) c.parents-parent-items.ensures (in_at items k c.loop-parent-test.true))),
    )

pub returns : goal.returns
returns c =
    let items = c.parents-parent-items.result.now in (
      (λ yes. subst (λ (l : List ℕ). (x : ℕ) → IsIn x l → MayHaveParent c.args.self.now (step_of c.args.step.now) x) c.parents-parent-items.ensures
          (at_in (MayHaveParent c.args.self.now (step_of c.args.step.now)) items
          (λ n l. let past = c.loop-parent-test.false in c.loop-parent.invariant n (omega (arith, l, past))))),
      λ all. refl,
    )
