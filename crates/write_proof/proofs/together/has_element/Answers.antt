use Rattle.std.proofs.Common.{map, ap}
use Rattle.bag_value.specs.Vals.{plain}
use Rattle.scalar_types.specs.KindViews.{kind_of}
use Rattle.scalar_types.specs.Scalars.{value_of}
use Rattle.write_proof.proofs.BelowCalls.{in_values, from_values, iff_then, no_answer}
use Rattle.write_proof.proofs.TogetherCalls.{no_element}
use Rattle.write_proof.proofs.together.has_element.Goals as goal

pub contains-requires : goal.contains-requires
contains-requires c = c.requires (kind_of c.in-Set.set.codec) (map value_of c.in-Set.set.items) (ap plain c.in-Set.is)

pub returns-in-Set : goal.returns-in-Set
returns-in-Set c = rw (c.in-Set.is) (iff_then c.contains.ensures (in_values c.args.element.now c.in-Set.set.items, from_values c.args.element.now c.in-Set.set.items))

pub returns-in_default : goal.returns-in_default
returns-in_default c = no_answer (no_element c.args.value.now (value_of c.args.element.now) c.in_default.not-Set)
