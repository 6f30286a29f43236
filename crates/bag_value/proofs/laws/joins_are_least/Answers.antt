use Rattle.bag_model.proofs.BelowLaws.{below-itself, below-onwards, below-both_ways, below-first, below-second, below-least}
use Rattle.bag_value.proofs.laws.joins_are_least.Goals as goal

pub returns-clause-itself : goal.returns-clause-itself
returns-clause-itself c = below-itself

pub returns-clause-onwards : goal.returns-clause-onwards
returns-clause-onwards c = below-onwards

pub returns-clause-both_ways : goal.returns-clause-both_ways
returns-clause-both_ways c = below-both_ways

pub returns-clause-first : goal.returns-clause-first
returns-clause-first c = below-first

pub returns-clause-second : goal.returns-clause-second
returns-clause-second c = below-second

pub returns-clause-least : goal.returns-clause-least
returns-clause-least c = below-least
