use Rattle.std.proofs.Common.{rules}
use Rattle.bag_value.proofs.moves.replace_first.Goals as goal

pub returns-in-Some-pop_front-clause-moved : goal.returns-in-Some-pop_front-clause-moved
returns-in-Some-pop_front-clause-moved c = (c.in-Some.our, c.in-Some-pop_front.new, c.in-Some.ensures.items, c.in-Some-pop_front.ensures.items, search rules)
