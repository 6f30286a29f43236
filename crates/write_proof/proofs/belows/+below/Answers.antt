use Rattle.std.proofs.Common.{length, map, ap, subst, refl, arith}
use Rattle.std.proofs.lemmas.List.{length-map}
use Rattle.context_model.specs.KeyedMerge.{IsAt}
use Rattle.context_model.proofs.MergeLaws.{IsIn-keys_of, IsAt-unique}
use Rattle.bag_model.specs.Joins.{IsValueBelow}
use Rattle.bag_model.specs.Scalars.{scalar_cmp}
use Rattle.bag_model.specs.Values.{Value, pairs, values_list, value_count}
use Rattle.bag_model.proofs.ScalarOrder.{scalar_total}
use Rattle.scalar_types.specs.KindViews.{kind_of}
use Rattle.scalar_types.specs.Scalars.{value_of}
use Rattle.bag_value.specs.Vals.{plain, pair_of}
use Rattle.write_proof.proofs.BelowCalls.{alike_of, sets_of, sets_answer, counters_answer, maps_answer, bags_answer, bags_of_one, entries_of_one, values_of_one, as_long, answered, read_place, at_place, place_at, place_within, entry_size, value_size, yes_answer, no_answer, each_more, iff_then, counters_of, maps_of, is_some}
use Rattle.write_proof.proofs.belows.+below.Goals as goal

pub is_below-is_subset-requires-clause-proper : goal.is_below-is_subset-requires-clause-proper
is_below-is_subset-requires-clause-proper t c =
    let one = rw (c.in-Set-Set.is-0, c.in-Set-Set.is-1) at c.requires.one in
    (sets_of (kind_of c.in-Set-Set.ours.codec) (kind_of c.in-Set-Set.theirs.codec) (map value_of c.in-Set-Set.ours.items) (map value_of c.in-Set-Set.theirs.items) one).0

pub is_below-returns-in-Set-Set : goal.is_below-returns-in-Set-Set
is_below-returns-in-Set-Set t c =
    let ours = c.in-Set-Set.ours in
    let theirs = c.in-Set-Set.theirs in
    let one = rw (c.in-Set-Set.is-0, c.in-Set-Set.is-1) at c.requires.one in
    let alike = rw (c.in-Set-Set.is-0, c.in-Set-Set.is-1) at c.requires.alike in
    rw (c.in-Set-Set.is-0, c.in-Set-Set.is-1)
    (iff_then c.is_subset.ensures (sets_answer (kind_of ours.codec) (kind_of theirs.codec) (map value_of ours.items) (map value_of theirs.items) one alike))

pub is_below-returns-in-Counter-Counter : goal.is_below-returns-in-Counter-Counter
is_below-returns-in-Counter-Counter t c =
    let ours = c.in-Counter-Counter.ours in
    let theirs = c.in-Counter-Counter.theirs in
    let one = rw (c.in-Counter-Counter.is-0, c.in-Counter-Counter.is-1) at c.requires.one in
    rw (c.in-Counter-Counter.is-0, c.in-Counter-Counter.is-1) (iff_then c.are_counts_below.ensures (counters_answer ours theirs one))

pub is_below-are_values_below-requires : goal.is_below-are_values_below-requires
is_below-are_values_below-requires t c =
    let one = rw (c.in-Bag-Bag.is-0, c.in-Bag-Bag.is-1) at c.requires.one in
    (omega (arith, c.decreases, ap (λ v. value_count (plain v)) c.in-Bag-Bag.is-0), bags_of_one c.in-Bag-Bag.ours c.in-Bag-Bag.theirs one)

pub is_below-are_counts_below-requires : goal.is_below-are_counts_below-requires
is_below-are_counts_below-requires t c =
    let one = rw (c.in-Counter-Counter.is-0, c.in-Counter-Counter.is-1) at c.requires.one in
    counters_of c.in-Counter-Counter.ours c.in-Counter-Counter.theirs one

pub are_entries_below-is_below-requires : goal.are_entries_below-is_below-requires
are_entries_below-is_below-requires t c =
    let es = c.args.ours.now in
    let fs = c.args.theirs.now in
    let entry = c.entry-item.result in
    let key = value_of entry.key in
    let v = plain entry.value in
    let there = read_place pair_of c.as_slice-entry-items.result.now entry (pairs es) c.loop-entry.entry-index c.as_slice-entry-items.ensures c.loop-entry-test.true c.entry-item.is in
    let at = place_at key v (pairs es) c.loop-entry.entry-index there in
    let w = plain c.in-Some.other.now in
    let one = entries_of_one es fs c.requires key v w at c.in-Some.ensures in
    (omega (arith, c.decreases, entry_size es c.loop-entry.entry-index key v there), (one, alike_of v w one))

pub are_entries_below-returns-then-not-is_below : goal.are_entries_below-returns-then-not-is_below
are_entries_below-returns-then-not-is_below t c =
    let es = c.args.ours.now in
    let fs = c.args.theirs.now in
    let entry = c.entry-item.result in
    let key = value_of entry.key in
    let v = plain entry.value in
    let there = read_place pair_of c.as_slice-entry-items.result.now entry (pairs es) c.loop-entry.entry-index c.as_slice-entry-items.ensures c.loop-entry-test.true c.entry-item.is in
    let at = place_at key v (pairs es) c.loop-entry.entry-index there in
    let w = plain c.in-Some.other.now in
    no_answer (λ below.
    let s = (maps_answer es fs c.requires).1 below key v at in
    let same = IsAt-unique scalar_cmp scalar_total (pairs fs) key s.0 w (maps_of es fs c.requires).0 s.1 c.in-Some.ensures in
    let bad = c.if-not-is_below.ensures.1 (subst (IsValueBelow v) same s.2) in
    cc bad)

pub are_entries_below-returns-in-None : goal.are_entries_below-returns-in-None
are_entries_below-returns-in-None t c =
    let es = c.args.ours.now in
    let fs = c.args.theirs.now in
    let entry = c.entry-item.result in
    let key = value_of entry.key in
    let v = plain entry.value in
    let there = read_place pair_of c.as_slice-entry-items.result.now entry (pairs es) c.loop-entry.entry-index c.as_slice-entry-items.ensures c.loop-entry-test.true c.entry-item.is in
    let at = place_at key v (pairs es) c.loop-entry.entry-index there in
    no_answer (λ below.
    let s = (maps_answer es fs c.requires).1 below key v at in
    c.in-None.ensures (IsIn-keys_of (pairs fs) key s.0 s.1))

pub are_entries_below-loop-entry-preserved : goal.are_entries_below-loop-entry-preserved
are_entries_below-loop-entry-preserved t c =
    let es = c.args.ours.now in
    let fs = c.args.theirs.now in
    let entry = c.entry-item.result in
    let key = value_of entry.key in
    let v = plain entry.value in
    let there = read_place pair_of c.as_slice-entry-items.result.now entry (pairs es) c.loop-entry.entry-index c.as_slice-entry-items.ensures c.loop-entry-test.true c.entry-item.is in
    let at = place_at key v (pairs es) c.loop-entry.entry-index there in
    let w = plain c.in-Some.other.now in
    λ k other x l e.
    each_more (λ p. (y : Value) × IsAt p.0 y (pairs fs) × IsValueBelow p.1 y) (pairs es) c.loop-entry.entry-index (key, v) (λ j p less is. c.loop-entry.invariant j p.0 p.1 less is) there
    (w, c.in-Some.ensures, c.if-not-is_below.ensures.0 refl) k (other, x) l e

pub are_entries_below-returns : goal.are_entries_below-returns
are_entries_below-returns t c =
    let es = c.args.ours.now in
    let fs = c.args.theirs.now in
    yes_answer ((maps_answer es fs c.requires).0 (λ key v at.
    let s = at_place key v (pairs es) at in
    let within = place_within (key, v) (pairs es) s.0 s.1 in
    let past = c.loop-entry-test.false in
    let long = length-map c.as_slice-entry-items.result.now pair_of in
    c.loop-entry.invariant s.0 key v (omega (arith, within, past, long, ap length c.as_slice-entry-items.ensures)) s.1))

pub are_values_below-unwrap-requires-in-loop-at : goal.are_values_below-unwrap-requires-in-loop-at
are_values_below-unwrap-requires-in-loop-at t c =
    let long = as_long c.args.ours.now c.args.theirs.now c.requires in
    is_some (λ found. plain found.now) c.get-in-loop-at.result (values_list c.args.theirs.now) c.loop-at.at c.get-in-loop-at.ensures (omega (arith, long, c.len-at-end.ensures, c.loop-at-test.true))

pub are_values_below-is_below-requires : goal.are_values_below-is_below-requires
are_values_below-is_below-requires t c =
    let vs = c.args.ours.now in
    let ws = c.args.theirs.now in
    let v = plain c.unwrap.result.now in
    let w = plain c.unwrap-in-loop-at.result.now in
    let own = answered (λ found. plain found.now) c.get.result c.unwrap.result (values_list vs) c.loop-at.at c.get.ensures c.unwrap.ensures in
    let other = answered (λ found. plain found.now) c.get-in-loop-at.result c.unwrap-in-loop-at.result (values_list ws) c.loop-at.at c.get-in-loop-at.ensures c.unwrap-in-loop-at.ensures in
    let one = values_of_one vs ws c.requires c.loop-at.at v w own other in
    (omega (arith, c.decreases, value_size vs c.loop-at.at v own), (one, alike_of v w one))

pub are_values_below-returns-then-not-is_below : goal.are_values_below-returns-then-not-is_below
are_values_below-returns-then-not-is_below t c =
    let vs = c.args.ours.now in
    let ws = c.args.theirs.now in
    let v = plain c.unwrap.result.now in
    let w = plain c.unwrap-in-loop-at.result.now in
    let own = answered (λ found. plain found.now) c.get.result c.unwrap.result (values_list vs) c.loop-at.at c.get.ensures c.unwrap.ensures in
    let other = answered (λ found. plain found.now) c.get-in-loop-at.result c.unwrap-in-loop-at.result (values_list ws) c.loop-at.at c.get-in-loop-at.ensures c.unwrap-in-loop-at.ensures in
    no_answer (λ below. let bad = c.if-not-is_below.ensures.1 ((bags_answer vs ws c.requires).1 below c.loop-at.at v w own other) in cc bad)

pub are_values_below-returns : goal.are_values_below-returns
are_values_below-returns t c =
    let vs = c.args.ours.now in
    let ws = c.args.theirs.now in
    yes_answer ((bags_answer vs ws c.requires).0 (λ k v w d e.
    let within = place_within v (values_list vs) k d in
    c.loop-at.invariant k v w (omega (arith, within, c.loop-at-test.false, c.len-at-end.ensures)) d e))
