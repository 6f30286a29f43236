use Rattle.std.proofs.Common.{◌≡◌, ◌+◌, sym, subst, refl, arith}
use Rattle.bag_walks.specs.Gathering.{IsLastDatum}
use Rattle.bag_scan.proofs.DataPlaces.{last_stays, last_here}
use Rattle.bag_scan.proofs.data.last_datum.Goals as goal
use Rattle.bag_scan.proofs.data.last_datum.Goals.{then-is_datum, else-is_datum}

pub loop-at-preserved : goal.loop-at-preserved
loop-at-preserved c =
    let Last = IsLastDatum c.args.list.now c.args.from (c.loop-at.at + 1) in
    elim c.if-is_datum.branch [
      | then-is_datum w ↦ subst Last (sym w.last-is) (last_here c.args.list.now c.args.from c.loop-at.at c.loop-at.auto.at ((w.if-is_datum.ensures).0 refl))
      | else-is_datum w ↦ subst Last (sym w.last-is) (last_stays c.args.list.now c.args.from c.loop-at.at c.loop-at.last (λ is. let t = (w.if-is_datum.ensures).1 is in cc) c.loop-at.invariant)
    ]

pub returns : goal.returns
returns c =
    let same : c.loop-at.at ≡ c.args.to = omega (arith, c.loop-at-test.false, c.loop-at.auto.at-end c.requires.order) in
    subst (λ to. IsLastDatum c.args.list.now c.args.from to c.loop-at.last) same c.loop-at.invariant
