use Rattle.std.proofs.Common.{ap}
use Rattle.std.specs.Option.{option_map}
use Rattle.bag_value.specs.Vals.{plain}
use Rattle.scalar_types.specs.Scalars.{value_of}
use Rattle.write_proof.proofs.TogetherCalls.{behind, found_key, no_key_at}
use Rattle.write_proof.proofs.together.value_at.Goals as goal

pub returns-in-Map : goal.returns-in-Map
returns-in-Map c = found_key (plain c.args.map.now) c.in-Map.entries (value_of c.args.key.now) (option_map behind c.find.result) (ap plain c.in-Map.is) c.requires c.find.ensures

pub returns-in_default : goal.returns-in_default
returns-in_default c = λ v. ((λ e. absurd (cc e)), λ t. absurd (no_key_at c.args.map.now (value_of c.args.key.now) v c.in_default.not-Map t))
