use Rattle.write_proof.specs.Together.{IsOfField}
use Rattle.write_proof.proofs.TogetherCalls.{gathers_found, gathers_other, gathers_all}
use Rattle.write_proof.proofs.together.fields_of.Goals.{in-Some+in_ok-push, in_default}
use Rattle.write_proof.proofs.together.fields_of.Goals as goal

pub loop-bag-preserved : goal.loop-bag-preserved
loop-bag-preserved c =
    let P = IsOfField c.args.at in
    let bags = c.args.bags.now in
    elim c.match-field_of.branch [
      | in-Some+in_ok-push w ↦ rw w.found-is
          (gathers_found P bags c.loop-bag.bag-index c.bag-item.result c.loop-bag-test.true c.bag-item.is c.loop-bag.found.items w.push.new.self.items w.in-Some.value w.in-Some.ensures w.in_ok-push.ensures.items c.loop-bag.invariant)
      | in_default w ↦ rw w.found-is
          (gathers_other P bags c.loop-bag.bag-index c.bag-item.result c.loop-bag-test.true c.bag-item.is c.loop-bag.found.items w.in_default.ensures c.loop-bag.invariant)
    ]

pub returns : goal.returns
returns c = gathers_all (IsOfField c.args.at) c.args.bags.now c.loop-bag.bag-index c.loop-bag.found.items c.loop-bag-test.false c.loop-bag.invariant
