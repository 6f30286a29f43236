use Rattle.std.proofs.Common.{length, refl, subst}
use Rattle.trace_model.specs.Runs.{Lists}
use Rattle.par_ranks.specs.Rows.{AreMade}
use Rattle.par_ranks.proofs.Running.{row_steps, put_run}
use Rattle.par_ranks.proofs.rows.run_in_chunks.Goals as goal

pub run_chunks-requires-clause-row : goal.run_chunks-requires-clause-row
run_chunks-requires-clause-row g c κs within = row_steps c.args.run.now.graph.now c.args.row.now (length c.args.run.now.graph.now.steps) c.requires.row refl

pub put-requires-clause-within : goal.put-requires-clause-within
put-requires-clause-within g c = row_steps c.args.run.now.graph.now c.args.row.now (length c.args.lists.now.items) c.requires.row c.requires.lists

pub returns : goal.returns
returns g c =
    let nodes = c.args.run.now.table.now in
    let graph = c.args.run.now.graph.now in
    let row = c.args.row.now in
    let made = c.in_ok-made.made.items in
    put_run nodes graph row made c.args.lists.now.items c.put.new.lists.items c.requires.row
    (subst (λ (lists : Lists). AreMade nodes graph lists row made) c.as_slice-pool.ensures.value c.in_ok-made.ensures) c.put.ensures
