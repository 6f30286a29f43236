use Rattle.trace_model.proofs.ListedAdditions.{additions_are_listed}
use Rattle.trace_model.proofs.TruthLaws.{has_one_truth, truth_is_join}
use Rattle.trace_model.proofs.laws.truth_is_the_join.Goals as goal

pub returns-clause-one : goal.returns-clause-one
returns-clause-one c = has_one_truth

pub returns-clause-listed : goal.returns-clause-listed
returns-clause-listed c = additions_are_listed

pub returns-clause-join : goal.returns-clause-join
returns-clause-join c = truth_is_join
