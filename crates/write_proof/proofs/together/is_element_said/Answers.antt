use Rattle.std.proofs.Common.{refl, subst}
use Rattle.context_model.specs.Orders.{IsIn}
use Rattle.scalar_types.specs.Scalars.{value_of}
use Rattle.write_proof.specs.Together.{Says, HasElement, values_of}
use Rattle.write_proof.proofs.BelowCalls.{yes_answer, no_answer}
use Rattle.write_proof.proofs.Parts.{in_items}
use Rattle.write_proof.proofs.TogetherCalls.{behind, one_found, none_more, none_found}
use Rattle.write_proof.proofs.together.is_element_said.Goals as goal

pub has_element-requires : goal.has_element-requires
has_element-requires c = λ kind vs e.
    c.requires kind vs (subst (λ v. IsIn v (values_of c.args.others.now)) e (in_items behind c.args.others.now c.loop-other.other-index c.other-item.result c.loop-other-test.true c.other-item.is))

pub returns-then-has_element : goal.returns-then-has_element
returns-then-has_element c =
    yes_answer (one_found (λ v. Says v (HasElement (value_of c.args.element.now))) c.args.others.now c.loop-other.other-index c.other-item.result c.loop-other-test.true c.other-item.is (c.if-has_element.ensures.0 refl))

pub loop-other-preserved : goal.loop-other-preserved
loop-other-preserved c =
    none_more (λ v. Says v (HasElement (value_of c.args.element.now))) c.args.others.now c.loop-other.other-index c.other-item.result c.loop-other-test.true c.other-item.is c.loop-other.invariant
    (λ said. let bad = c.if-has_element.ensures.1 said in cc bad)

pub returns : goal.returns
returns c = no_answer (none_found (λ v. Says v (HasElement (value_of c.args.element.now))) c.args.others.now c.loop-other.other-index c.loop-other-test.false c.loop-other.invariant)
