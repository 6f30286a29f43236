use Rattle.std.proofs.Common.{◌↔◌, ◌∷◌, IsTrue, refl, sym, ◌∙◌, ap, subst}
use Rattle.std.specs.Prelude.{IfOk}
use Rattle.bag_value.specs.Vals.{plain}
use Rattle.write_proof.specs.Together.{AreOfOneShape, IsSaidBy, values_of}
use Rattle.write_proof.proofs.TogetherCalls.{lent_more, lent_all}
use Rattle.write_proof.proofs.used.is_said_by_parts.Goals as goal

pub loop-part-preserved : goal.loop-part-preserved
loop-part-preserved c =
    lent_more c.args.parts.now c.loop-part.others.items c.push.new.self.items c.loop-part.part-index c.part-item.result _ c.loop-part-test.true c.part-item.is refl c.in_ok-push.ensures.items c.loop-part.invariant

pub is_said_by-requires : goal.is_said_by-requires
is_said_by-requires c =
    let lent = ap values_of c.deref.ensures.value ∙ lent_all c.args.parts.now c.loop-part.others.items c.loop-part.part-index c.loop-part-test.false c.loop-part.invariant in
    subst (λ l. AreOfOneShape (plain c.args.value.now ∷ l)) (sym lent) c.requires

pub returns : goal.returns
returns c =
    let lent = ap values_of c.deref.ensures.value ∙ lent_all c.args.parts.now c.loop-part.others.items c.loop-part.part-index c.loop-part-test.false c.loop-part.invariant in
    subst (λ l. IfOk c.is_said_by.result (λ said. IsTrue said ↔ IsSaidBy (plain c.args.value.now) l)) lent c.is_said_by.ensures
