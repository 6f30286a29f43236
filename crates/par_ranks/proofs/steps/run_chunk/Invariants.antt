use Rattle.std.proofs.Common.{take}
use Rattle.par_ranks.specs.Rows.{AreMade}
use Rattle.par_ranks.proofs.steps.run_chunk.Given as goal

abbrev pub invariant-loop-step : goal.invariant-loop-step
invariant-loop-step g l = AreMade l.run.table.now l.run.graph.now l.lists (take l.step-index l.steps) l.made.items
