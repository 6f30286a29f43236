use Rattle.std.proofs.Common.{ap}
use Rattle.std.specs.Option.{option_map}
use Rattle.bag_value.specs.Vals.{plain}
use Rattle.write_proof.proofs.TogetherCalls.{behind, found_field, no_field_at}
use Rattle.write_proof.proofs.together.field_of.Goals as goal

pub returns-in-Bag : goal.returns-in-Bag
returns-in-Bag c = found_field (plain c.args.bag.now) c.in-Bag.values c.args.at (option_map behind c.get.result) (ap plain c.in-Bag.is) c.get.ensures

pub returns-in_default : goal.returns-in_default
returns-in_default c = λ v. ((λ e. absurd (cc e)), λ t. absurd (no_field_at c.args.bag.now c.args.at v c.in_default.not-Bag t))
