use Rattle.recorded_graph.proofs.Growing.{graphs_grow}
use Rattle.recorded_graph.proofs.laws.graphs_of_tables_grow.Goals as goal

pub returns : goal.returns
returns c = graphs_grow
