use Rattle.trace_model.proofs.RunLaws.{has_one_run, runs_grow}
use Rattle.trace_model.proofs.laws.graphs_have_one_run.Goals as goal

pub returns-clause-one : goal.returns-clause-one
returns-clause-one c = has_one_run

pub returns-clause-grow : goal.returns-clause-grow
returns-clause-grow c = runs_grow
