use Rattle.std.proofs.Common.{ℕ, List, [], sym, ◌∙◌, subst}
use Rattle.std.proofs.lemmas.List.{get_or_read}
use Rattle.par_ranks.specs.Rows.{AreIndependent, IsRowRun}
use Rattle.par_ranks.proofs.Running.{planned_row, no_rows, one_row, all_rows}
use Rattle.par_ranks.proofs.runs.run_rows.Goals as goal

pub loop-row-init : goal.loop-row-init
loop-row-init g c = no_rows c.args.run.now.table.now c.args.run.now.graph.now c.args.rows.now c.in_ok-lists.lists.items (c.in_ok-lists.ensures ∙ c.steps.ensures)

pub run_row-requires-clause-row : goal.run_row-requires-clause-row
run_row-requires-clause-row g c κs within =
    let rows = c.args.rows.now in
    let turn = c.loop-row.row-index in
    let own = c.as_slice.ensures ∙ get_or_read rows turn c.row-item.result c.loop-row-test.true c.row-item.is [] in
    subst (AreIndependent c.args.run.now.graph.now) (sym own) (planned_row c.args.run.now.graph.now rows turn c.requires.plan)

pub loop-row-preserved : goal.loop-row-preserved
loop-row-preserved g c =
    let nodes = c.args.run.now.table.now in
    let graph = c.args.run.now.graph.now in
    let rows = c.args.rows.now in
    let turn = c.loop-row.row-index in
    let old = c.loop-row.lists.items in
    let new = c.run_row.new.lists.items in
    let own = c.as_slice.ensures ∙ get_or_read rows turn c.row-item.result c.loop-row-test.true c.row-item.is [] in
    one_row nodes graph rows turn old new c.requires.plan (subst (λ (row : List ℕ). IsRowRun nodes graph row old new) own c.in_ok-run_row.ensures) c.loop-row.invariant

pub returns : goal.returns
returns g c = all_rows c.args.run.now.table.now c.args.run.now.graph.now c.args.rows.now c.loop-row.row-index c.loop-row.lists.items c.requires.plan c.loop-row-test.false c.loop-row.invariant
