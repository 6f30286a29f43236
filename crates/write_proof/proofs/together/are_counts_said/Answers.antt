use Rattle.std.proofs.Common.{refl, arith}
use Rattle.bag_model.specs.Values.{Counter}
use Rattle.write_proof.specs.Together.{IsSaid, CountsTo, values_of}
use Rattle.write_proof.proofs.BelowCalls.{answered, at_place, place_at, place_within, yes_answer, no_answer, each_more}
use Rattle.write_proof.proofs.TogetherCalls.{all_proper, counts_said}
use Rattle.write_proof.proofs.together.are_counts_said.Goals as goal

pub is_count_said-requires : goal.is_count_said-requires
is_count_said-requires c = all_proper (Counter c.args.counts.now) (values_of c.args.others.now) c.requires

pub returns-then-not-is_count_said : goal.returns-then-not-is_count_said
returns-then-not-is_count_said c =
    let counts = c.args.counts.now in
    let there = answered (λ e. (e.0.now, e.1)) c.nth.result c.unwrap-count.result counts c.loop-at.at c.nth.ensures c.unwrap-count.ensures in
    let writer = c.unwrap-count.result.0.now in
    let n = c.unwrap-count.result.1 in
    no_answer (λ all.
    let bad = c.if-not-is_count_said.ensures.1 ((counts_said counts (values_of c.args.others.now)).1 all writer n (place_at writer n counts c.loop-at.at there)) in
    cc bad)

pub loop-at-preserved : goal.loop-at-preserved
loop-at-preserved c =
    let counts = c.args.counts.now in
    let there = answered (λ e. (e.0.now, e.1)) c.nth.result c.unwrap-count.result counts c.loop-at.at c.nth.ensures c.unwrap-count.ensures in
    λ k writer n l e.
    each_more (λ p. IsSaid (CountsTo p.0 p.1) (values_of c.args.others.now)) counts c.loop-at.at (c.unwrap-count.result.0.now, c.unwrap-count.result.1) (λ j p less is. c.loop-at.invariant j p.0 p.1 less is) there
    (c.if-not-is_count_said.ensures.0 refl) k (writer, n) l e

pub returns : goal.returns
returns c =
    let counts = c.args.counts.now in
    yes_answer ((counts_said counts (values_of c.args.others.now)).0 (λ writer n at.
    let s = at_place writer n counts at in
    let within = place_within (writer, n) counts s.0 s.1 in
    let past = c.loop-at-test.false in
    let long = c.len-at-end.ensures in
    c.loop-at.invariant s.0 writer n (omega (arith, within, past, long)) s.1))
