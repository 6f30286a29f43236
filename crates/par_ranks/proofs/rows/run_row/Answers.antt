use Rattle.std.proofs.Common.{length, refl}
use Rattle.par_ranks.proofs.Running.{row_steps}
use Rattle.par_ranks.proofs.rows.run_row.Goals as goal

pub chunk_count-chunks-requires-clause-row : goal.chunk_count-chunks-requires-clause-row
chunk_count-chunks-requires-clause-row g c = row_steps c.args.run.now.graph.now c.args.row.now (length c.args.run.now.graph.now.steps) c.requires.row refl
