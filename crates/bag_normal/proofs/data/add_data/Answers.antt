use Rattle.std.proofs.Common.{◌≡◌, ◌+◌, List, ℕ, refl, sym, ap, subst, arith}
use Rattle.bag_normal.specs.Data.{RisesUpTo, AddsPlaces, IsDatumBetween}
use Rattle.bag_normal.proofs.Places.{rises_on, rises_more, data_more, data_other}
use Rattle.bag_normal.proofs.data.add_data.Goals as goal
use Rattle.bag_normal.proofs.data.add_data.Goals.{then-is_datum+in_ok-push, else-is_datum}

pub loop-at-preserved : goal.loop-at-preserved
loop-at-preserved c =
    let list = c.args.list.now in
    let from = c.args.from in
    let at = c.loop-at.at in
    let before = c.args.gone.now.items in
    let held = c.loop-at.gone.items in
    let Kept = λ (gone : List ℕ). record { rises : RisesUpTo gone (at + 1); adds : AddsPlaces (IsDatumBetween list from (at + 1)) before gone } in
    elim c.if-is_datum.branch [
      | then-is_datum+in_ok-push w ↦ rw (ap (λ v. v.items) w.gone-is) (subst Kept (sym w.in_ok-push.ensures.items) (record {
        rises = rises_more held at c.loop-at.invariant.rises;
        adds = data_more list from at before held c.loop-at.auto.at ((w.if-is_datum.ensures).0 refl) c.loop-at.invariant.adds;
      }))
      | else-is_datum w ↦ rw (ap (λ v. v.items) w.gone-is) (record {
        rises = rises_on held at (at + 1) (omega arith) c.loop-at.invariant.rises;
        adds = data_other list from at before held (λ is. let t = (w.if-is_datum.ensures).1 is in cc) c.loop-at.invariant.adds;
      })
    ]

pub returns-clause-rises : goal.returns-clause-rises
returns-clause-rises c =
    let same : c.loop-at.at ≡ c.args.to = omega (arith, c.loop-at-test.false, c.loop-at.auto.at-end c.requires.order) in
    subst (RisesUpTo c.loop-at.gone.items) same c.loop-at.invariant.rises

pub returns-clause-adds : goal.returns-clause-adds
returns-clause-adds c =
    let same : c.loop-at.at ≡ c.args.to = omega (arith, c.loop-at-test.false, c.loop-at.auto.at-end c.requires.order) in
    subst (λ to. AddsPlaces (IsDatumBetween c.args.list.now c.args.from to) c.args.gone.now.items c.loop-at.gone.items) same c.loop-at.invariant.adds
