use Rattle.std.proofs.Common.{refl}
use Rattle.bag_model.specs.Joins.{IsValueBelow}
use Rattle.bag_value.specs.Vals.{plain}
use Rattle.write_proof.specs.Together.{values_of}
use Rattle.write_proof.proofs.BelowCalls.{alike_of, yes_answer, no_answer}
use Rattle.write_proof.proofs.Parts.{in_items}
use Rattle.write_proof.proofs.TogetherCalls.{behind, one_of, one_found, none_more, none_found}
use Rattle.write_proof.proofs.together.is_below_one.Goals as goal

pub is_below-requires-clause-one : goal.is_below-requires-clause-one
is_below-requires-clause-one c =
    one_of (plain c.args.value.now) (values_of c.args.others.now) c.requires (plain c.other-item.result.now) (in_items behind c.args.others.now c.loop-other.other-index c.other-item.result c.loop-other-test.true c.other-item.is)

pub is_below-requires-clause-alike : goal.is_below-requires-clause-alike
is_below-requires-clause-alike c = alike_of (plain c.args.value.now) (plain c.other-item.result.now) (is_below-requires-clause-one c)

pub returns-then-is_below : goal.returns-then-is_below
returns-then-is_below c =
    yes_answer (one_found (IsValueBelow (plain c.args.value.now)) c.args.others.now c.loop-other.other-index c.other-item.result c.loop-other-test.true c.other-item.is (c.if-is_below.ensures.0 refl))

pub loop-other-preserved : goal.loop-other-preserved
loop-other-preserved c =
    none_more (IsValueBelow (plain c.args.value.now)) c.args.others.now c.loop-other.other-index c.other-item.result c.loop-other-test.true c.other-item.is c.loop-other.invariant
    (λ below. let bad = c.if-is_below.ensures.1 below in cc bad)

pub returns : goal.returns
returns c = no_answer (none_found (IsValueBelow (plain c.args.value.now)) c.args.others.now c.loop-other.other-index c.loop-other-test.false c.loop-other.invariant)
