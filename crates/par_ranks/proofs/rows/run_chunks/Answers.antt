use contract.Lifetimes.{Lfts}
use denote.Param.{param}
use denote.Param.Send.{IsSync, sendable}
use Rattle.std.proofs.Crossing.{crosses}
use Rattle.atom_list.proofs.contexts.Context.TheSendSync.{the_sync as context_sync}
use Rattle.recorded_graph.proofs.Crossing.{steps_cross}
use Rattle.par_ranks.specs.contracts.rows.run_chunks.{R-row, G-row}
use Rattle.par_ranks.proofs.Crossing.{table_sync}
use Rattle.par_ranks.proofs.rows.run_chunks.Given as given
use Rattle.par_ranks.proofs.rows.run_chunks.Lts.{arg-0-4}
use Rattle.par_ranks.proofs.rows.run_chunks.Goals as goal

-- What the threads share is a run: the runtime, a table, a graph and the gate, and lists of atoms.
shared : (g : given.Over) (κs : Lfts 11) → IsSync (R-row g.row.R g.row.G) → IsSync (G-row g.row.R g.row.G) → IsSync (param 4 (arg-0-4 g.row.R g.row.G g.R.laws g.G.laws g.R.Threads-dict g.G.Gate-dict κs))
shared g κs runtime gate = search (sendable, crosses, steps_cross, context_sync, table_sync) depth 30

pub map_chunks-requires-sync-F : goal.map_chunks-requires-sync-F
map_chunks-requires-sync-F g c κs within = shared g κs c.type_bounds.sync-R c.type_bounds.sync-G
