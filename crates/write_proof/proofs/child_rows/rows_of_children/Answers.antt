use Rattle.std.proofs.Common.{◌≡◌, ℕ, length, subst, ◌∙◌, arith}
use Rattle.recorded_graph.specs.Plain.{step_of}
use Rattle.write_proof.specs.ChildRows.{AreRowsTo}
use Rattle.write_proof.proofs.ChildRows.{rows_none, rows_more, parents_in_rows}
use Rattle.write_proof.proofs.child_rows.rows_of_children.Goals as goal

pub loop-child-init : goal.loop-child-init
loop-child-init c = rows_none c.args.graph.now c.in_ok-rows.rows.items (c.in_ok-rows.ensures.many ∙ c.steps.ensures) c.in_ok-rows.ensures.empty

pub add_child-requires : goal.add_child-requires
add_child-requires c =
    parents_in_rows c.args.graph.now c.known.ensures.sound c.loop-child.child (step_of c.step.result.now) c.parents.result.now c.loop-child.rows.items (omega (arith, c.loop-child-test.true, c.steps-child-end.ensures)) c.step.ensures c.parents.ensures c.loop-child.invariant

pub loop-child-preserved : goal.loop-child-preserved
loop-child-preserved c =
    rows_more c.args.graph.now c.loop-child.child (step_of c.step.result.now) c.parents.result.now c.loop-child.rows.items c.add_child.new.rows.items c.step.ensures c.parents.ensures c.loop-child.invariant c.in_ok-add_child.ensures

pub returns : goal.returns
returns c =
    let all : c.loop-child.child ≡ length c.args.graph.now.steps = omega (arith, c.loop-child-test.false, c.loop-child.auto.child-end, c.steps-child-end.ensures) in
    subst (λ (m : ℕ). AreRowsTo c.args.graph.now m c.loop-child.rows.items) all c.loop-child.invariant
