use Rattle.std.proofs.Common.{[], ◌∙◌, arith}
use Rattle.std.proofs.lemmas.List.{get_or_read}
use Rattle.write_proof.proofs.ChildRows.{child_there, no_row}
use Rattle.write_proof.proofs.line_rules.has_parent.Goals as goal

pub returns-then-step-steps : goal.returns-then-step-steps
returns-then-step-steps c =
    let rows = c.args.rows.now in
    let step = c.args.step in
    let many = c.requires.as_many in
    let own = c.as_slice.ensures ∙ get_or_read rows step c.index-rows-step.result (omega (arith, many, c.steps.ensures, c.if-step-steps.true)) c.index-rows-step.is [] in
    child_there c.args.graph.now rows c.requires c.args.child step c.as_slice.result.now c.contains.result own c.contains.ensures.value

pub returns-else-step-steps : goal.returns-else-step-steps
returns-else-step-steps c = no_row c.args.graph.now c.args.rows.now c.requires c.args.child c.args.step c.steps.result c.steps.ensures c.if-step-steps.false
