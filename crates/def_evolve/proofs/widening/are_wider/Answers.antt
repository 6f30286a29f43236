use Rattle.std.proofs.Common.{arith}
use Rattle.def_evolve.proofs.WiderLists.{wider_long, wider_turn}
use Rattle.def_evolve.proofs.widening.are_wider.Goals as goal

pub returns-then-words-more : goal.returns-then-words-more
returns-then-words-more c = (
  (λ t. absurd (cc t)),
  λ w.
      let same = wider_long c.args.words.now c.args.more.now w in
      absurd (omega (arith, same, c.if-words-more.true)),
)

pub returns-then-not-is_wider : goal.returns-then-not-is_wider
returns-then-not-is_wider c = (
  (λ t. absurd (cc t)),
  λ w.
      let turn = wider_turn c.args.words.now c.args.more.now c.loop-at.at (omega (arith, c.loop-at-test.true)) (omega (arith, c.loop-at-test.true, c.if-words-more.false)) in
      let e = c.is_wider.ensures.1 (turn.0 (c.loop-at.invariant.0 w)).0 in
      absurd (cc (e, c.if-not-is_wider.true)),
)

pub loop-at-preserved : goal.loop-at-preserved
loop-at-preserved c =
    let turn = wider_turn c.args.words.now c.args.more.now c.loop-at.at (omega (arith, c.loop-at-test.true)) (omega (arith, c.loop-at-test.true, c.if-words-more.false)) in (
      (λ w. (turn.0 (c.loop-at.invariant.0 w)).1),
      λ w. c.loop-at.invariant.1 (turn.1 (c.is_wider.ensures.0 c.if-not-is_wider.false, w)),
    )
