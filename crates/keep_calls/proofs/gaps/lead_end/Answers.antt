use Rattle.std.proofs.Common.{◌-◌, inl, inr, arith}
use Rattle.std.proofs.lemmas.Bool.{cases_lt}
use Rattle.keep_calls.proofs.gaps.lead_end.Goals as goal

pub overflow_add-level : goal.overflow_add-level
overflow_add-level c = elim (cases_lt c.args.from c.loop-at.at) [
  | inl less ↦ (let before = c.loop-at.invariant (c.loop-at.at - c.args.from - 1) (omega (arith, less)) in omega (arith, less, before.0, c.requires.few))
  | inr more ↦ omega (arith, more, c.requires.level, c.requires.few)
]

pub returns-clause-lead : goal.returns-clause-lead
returns-clause-lead c = λ k l. c.loop-at.invariant k (omega (arith, l, c.loop-at-test.false))
