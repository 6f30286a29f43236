use Rattle.std.proofs.Common.{◌+◌, ◌*◌}
use Rattle.random_bags.proofs.values.+random.Given as goal

abbrev pub decreases-random_value : goal.decreases-random_value
decreases-random_value l = 2 * l.levels

abbrev pub decreases-random_entry : goal.decreases-random_entry
decreases-random_entry l = 2 * l.levels + 1

abbrev pub decreases-random_bag : goal.decreases-random_bag
decreases-random_bag l = 2 * l.levels + 1
