use Rattle.graph_text.proofs.Definite.{one_graph, one_first_fault, never_both}
use Rattle.graph_text.proofs.laws.texts_have_one_graph.Goals as goal

pub returns-clause-one : goal.returns-clause-one
returns-clause-one c = one_graph c.lines_are_definite.ensures

pub returns-clause-fault : goal.returns-clause-fault
returns-clause-fault c = one_first_fault c.lines_are_definite.ensures

pub returns-clause-never_both : goal.returns-clause-never_both
returns-clause-never_both c = never_both c.lines_are_definite.ensures
