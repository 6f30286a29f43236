use Rattle.std.proofs.Common.{sym, ap, ◌∙◌}
use Rattle.bag_value.specs.Vals.{val_of}
use Rattle.bag_value.specs.ValLaws.{val_back}
use Rattle.bag_value.proofs.vals.ValLattice.join.Goals as goal

pub returns-clause-ok : goal.returns-clause-ok
returns-clause-ok c = sym (val_back c.join_in_place.new.self) ∙ ap val_of c.in_ok-join_in_place.ensures.ok
