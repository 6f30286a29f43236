use Rattle.graph_text.proofs.reading.read_graph.Goals as goal

pub returns-clause-table : goal.returns-clause-table
returns-clause-table c =
    (c.texts_give_recorded_graphs.ensures c.args.table.now c.args.text.now c.in_ok-graph.graph c.nodes.ensures.table c.in_ok-graph.ensures.graph).fits
