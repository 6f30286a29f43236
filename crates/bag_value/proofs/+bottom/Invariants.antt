use Rattle.std.proofs.Common.{drop}
use Rattle.std.specs.Prelude.{◌↔◌}
use Rattle.bag_model.specs.Joins.{AreBottom}
use Rattle.bag_value.specs.Vals.{plain_values}
use Rattle.bag_value.proofs.+bottom.Given as goal

abbrev pub invariant-lists::Vals::say_nothing-loop-value : goal.invariant-lists::Vals::say_nothing-loop-value
invariant-lists::Vals::say_nothing-loop-value l = AreBottom (plain_values l.value-items) ↔ AreBottom (plain_values (drop l.value-index l.value-items))
