use Rattle.std.proofs.Common.{arith}
use Rattle.place_calls.proofs.ChosenLaws.{holds_none, holds_next, holds_all}
use Rattle.place_calls.proofs.found.Searched.put_chosen.Goals as goal

pub loop-at-init : goal.loop-at-init
loop-at-init c = holds_none c.args.self.now.form c.args.table.now c.args.self.now.list.now c.args.chosen.now c.args.places.now

pub loop-at-preserved : goal.loop-at-preserved
loop-at-preserved c =
    holds_next c.args.self.now.form c.args.table.now c.args.self.now.list.now c.args.chosen.now c.loop-at.at c.args.places.now c.loop-at.places c.place_of.result
    c.loop-at-test.true (c.requires.slots c.loop-at.at c.loop-at-test.true) c.loop-at.invariant c.place_of.ensures

pub returns : goal.returns
returns c =
    holds_all c.args.self.now.form c.args.table.now c.args.self.now.list.now c.args.chosen.now c.loop-at.at c.args.places.now c.loop-at.places
    (omega (arith, c.loop-at-test.false)) c.requires.room c.loop-at.invariant
