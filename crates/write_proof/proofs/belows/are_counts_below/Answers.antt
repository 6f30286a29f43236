use Rattle.std.proofs.Common.{arith}
use Rattle.context_model.specs.Orders.{atom_cmp}
use Rattle.context_model.proofs.MergeLaws.{IsIn-keys_of, IsAt-unique}
use Rattle.context_model.proofs.OrderLaws.{atoms_total}
use Rattle.write_proof.proofs.BelowCalls.{answered, at_place, place_at, place_within, yes_answer, no_answer}
use Rattle.write_proof.proofs.belows.are_counts_below.Goals as goal

pub returns-in_default : goal.returns-in_default
returns-in_default c =
    no_answer (λ all.
    let there = answered (λ e. (e.0.now, e.1)) c.nth.result c.unwrap-count.result c.args.ours.now c.loop-at.at c.nth.ensures c.unwrap-count.ensures in
    let writer = c.unwrap-count.result.0.now in
    let s = all writer c.unwrap-count.result.1 (place_at writer c.unwrap-count.result.1 c.args.ours.now c.loop-at.at there) in
    let same = IsAt-unique atom_cmp atoms_total c.args.theirs.now writer s.0 c.in-Some.other c.requires.0 s.1 c.in-Some.ensures in
    let most = s.2 in
    omega (arith, same, most, c.if-count-other.false))

pub returns-in_default-2 : goal.returns-in_default-2
returns-in_default-2 c =
    no_answer (λ all.
    let there = answered (λ e. (e.0.now, e.1)) c.nth.result c.unwrap-count.result c.args.ours.now c.loop-at.at c.nth.ensures c.unwrap-count.ensures in
    let s = all c.unwrap-count.result.0.now c.unwrap-count.result.1 (place_at c.unwrap-count.result.0.now c.unwrap-count.result.1 c.args.ours.now c.loop-at.at there) in
    c.in_default.ensures (IsIn-keys_of c.args.theirs.now c.unwrap-count.result.0.now s.0 s.1))

pub returns : goal.returns
returns c =
    yes_answer (λ writer n at.
    let s = at_place writer n c.args.ours.now at in
    let within = place_within (writer, n) c.args.ours.now s.0 s.1 in
    let past = c.loop-at-test.false in
    let long = c.len-at-end.ensures in
    c.loop-at.invariant s.0 writer n (omega (arith, within, past, long)) s.1)
