use Rattle.std.proofs.Common.{ℕ, List, sym, ap, subst, arith, ◌+◌}
use Rattle.bag_value.specs.declared.vals.Val.{Val}
use Rattle.bag_value.proofs.Joining.{within_second}
use Rattle.bag_value.proofs.Placing.{IsJoinedTo, joined_begins, joined_alike, joined_stays, joined_more, joined_ends}
use Rattle.bag_value.proofs.in_place.brought.Goals as goal
use Rattle.bag_value.proofs.in_place.brought.Goals.{then-not-says_nothing+in_ok-joined+in_ok-push, else-not-says_nothing}

pub bounds-theirs-at : goal.bounds-theirs-at
bounds-theirs-at c = within_second c.args.ours.now c.args.theirs.now c.loop-at.at (omega arith) c.loop-at.invariant.alike

pub joined-requires : goal.joined-requires
joined-requires c =
    joined_alike c.args.ours.now c.args.theirs.now c.loop-at.news.items c.loop-at.at c.index-ours-at.result c.index-theirs-at.result
    (omega arith) c.index-ours-at.is c.index-theirs-at.is c.loop-at.invariant

pub loop-at-init : goal.loop-at-init
loop-at-init c =
    subst (λ (l : List (ℕ × Val)). IsJoinedTo c.args.ours.now c.args.theirs.now l 0) (sym c.new-news.ensures.items)
    (joined_begins c.args.ours.now c.args.theirs.now c.requires.ours c.requires.theirs c.requires.alike)

pub loop-at-preserved : goal.loop-at-preserved
loop-at-preserved c =
    let Joined : List (ℕ × Val) → Type 0 = λ l. IsJoinedTo c.args.ours.now c.args.theirs.now l (c.loop-at.at + 1) in
    elim c.if-not-says_nothing.branch [
      | then-not-says_nothing+in_ok-joined+in_ok-push w ↦ rw (ap (λ v. v.items) w.news-is) (subst Joined (sym w.in_ok-push.ensures.items)
          (joined_more c.args.ours.now c.args.theirs.now c.loop-at.news.items c.loop-at.at c.index-ours-at.result c.index-theirs-at.result
          (omega arith) c.index-ours-at.is c.index-theirs-at.is c.loop-at.invariant w.in_ok-joined.field-0 w.in_ok-joined.ensures))
      | else-not-says_nothing w ↦ rw (ap (λ v. v.items) w.news-is)
          (joined_stays c.args.ours.now c.args.theirs.now c.loop-at.news.items c.loop-at.at c.index-ours-at.result c.index-theirs-at.result
          (omega arith) c.index-ours-at.is c.index-theirs-at.is c.loop-at.invariant (c.says_nothing.ensures.0 w.if-not-says_nothing.false))
    ]

pub returns-clause-joined : goal.returns-clause-joined
returns-clause-joined c = joined_ends c.args.ours.now c.args.theirs.now c.loop-at.news.items c.loop-at.at (omega arith) c.loop-at.invariant
