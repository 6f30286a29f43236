use Rattle.std.proofs.Common.{◌≤◌, length, subst, arith}
use Rattle.lex_merge.specs.Many.{StandFor}
use Rattle.lex_merge.proofs.Standing.{one_stands, only_one}
use Rattle.lex_merge.proofs.many.merge_many.Goals as goal

pub returns-in-Some-clause-merged : goal.returns-in-Some-clause-merged
returns-in-Some-clause-merged c =
    let left = c.loop-contexts.contexts.items in
    let few : length left ≤ 1 = omega arith in
    let one = only_one left c.pop.new.self.items c.in-Some.merged c.in-Some.ensures.items few in
    (one_stands c.args.contexts.items c.in-Some.merged c.list-list.ensures.well_formed (subst (λ lists. StandFor lists c.args.contexts.items) one c.loop-contexts.invariant)).0

pub returns-in-Some-clause-one_by_one : goal.returns-in-Some-clause-one_by_one
returns-in-Some-clause-one_by_one c =
    let left = c.loop-contexts.contexts.items in
    let few : length left ≤ 1 = omega arith in
    let one = only_one left c.pop.new.self.items c.in-Some.merged c.in-Some.ensures.items few in
    (one_stands c.args.contexts.items c.in-Some.merged c.list-list.ensures.well_formed (subst (λ lists. StandFor lists c.args.contexts.items) one c.loop-contexts.invariant)).1
