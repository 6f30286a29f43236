use Rattle.std.proofs.Common.{◌∷◌, length, ap, sym, subst, vec_len, arith}
use Rattle.std.proofs.lemmas.List.{length-map}
use Rattle.bag_model.specs.Values.{Map, pairs, values_list, value_count}
use Rattle.scalar_types.specs.Scalars.{value_of}
use Rattle.bag_value.specs.Vals.{plain, pair_of}
use Rattle.write_proof.specs.Together.{AreOfOneShape, IsSaidBy, values_of}
use Rattle.write_proof.proofs.BelowCalls.{answered, read_place, at_place, place_at, place_within, entry_size, value_size, yes_answer, no_answer, each_more, iff_then}
use Rattle.write_proof.proofs.TogetherCalls.{all_proper, alone_answer, found_some, found_none, each_value, IsEntrySaid, IsFieldSaid, entries_said, entry_said, entry_found, fields_said, field_said, shape_at, shape_in}
use Rattle.write_proof.proofs.together.+together.Goals.{are_entries_said-then-is_empty-via-then-is_empty, are_entries_said-then-is_empty-via-else-is_empty+in_ok-is_said_by+then-not-branch}
use Rattle.write_proof.proofs.together.+together.Goals as goal

pub is_said_by-returns-in_default : goal.is_said_by-returns-in_default
is_said_by-returns-in_default t c =
    iff_then c.is_said_alone.ensures (alone_answer c.args.value.now (values_of c.args.others.now) c.requires c.in_default.not-Set c.in_default.not-Counter c.in_default.not-Map c.in_default.not-Bag)

pub is_said_by-are_entries_said-requires : goal.is_said_by-are_entries_said-requires
is_said_by-are_entries_said-requires t c = (omega (arith, c.decreases, ap (λ v. value_count (plain v)) c.in-Map.is), rw c.in-Map.is at c.requires)

pub is_said_by-returns-in-Map : goal.is_said_by-returns-in-Map
is_said_by-returns-in-Map t c = rw c.in-Map.is c.are_entries_said.ensures

pub is_said_by-returns-in-Bag : goal.is_said_by-returns-in-Bag
is_said_by-returns-in-Bag t c = rw c.in-Bag.is c.are_values_said.ensures

pub are_entries_said-values_at-requires : goal.are_entries_said-values_at-requires
are_entries_said-values_at-requires t c = all_proper (Map c.args.entries.now) (values_of c.args.others.now) c.requires

pub are_entries_said-is_said_by-requires : goal.are_entries_said-is_said_by-requires
are_entries_said-is_said_by-requires t c =
    let es = c.args.entries.now in
    let entry = c.entry-item.result in
    let key = value_of entry.key in
    let v = plain entry.value in
    let there = read_place pair_of c.as_slice-entry-items.result.now entry (pairs es) c.loop-entry.entry-index c.as_slice-entry-items.ensures c.loop-entry-test.true c.entry-item.is in
    let at = place_at key v (pairs es) c.loop-entry.entry-index there in
    let one = shape_at es (values_of c.args.others.now) key v c.requires at (values_of c.in_ok-found.found.items) c.in_ok-found.ensures in
    (omega (arith, c.decreases, entry_size es c.loop-entry.entry-index key v there), subst (λ l. AreOfOneShape (v ∷ values_of l)) (sym c.deref.ensures.value) one)

pub are_entries_said-returns-then-is_empty : goal.are_entries_said-returns-then-is_empty
are_entries_said-returns-then-is_empty t c =
    let es = c.args.entries.now in
    let others = values_of c.args.others.now in
    let entry = c.entry-item.result in
    let key = value_of entry.key in
    let v = plain entry.value in
    let there = read_place pair_of c.as_slice-entry-items.result.now entry (pairs es) c.loop-entry.entry-index c.as_slice-entry-items.ensures c.loop-entry-test.true c.entry-item.is in
    let at = place_at key v (pairs es) c.loop-entry.entry-index there in
    no_answer (λ all.
    let found = entry_found key v others (values_of c.in_ok-found.found.items) c.in_ok-found.ensures ((entries_said es others).1 all key v at) in
    elim c.then-is_empty.branch [
      | are_entries_said-then-is_empty-via-then-is_empty w ↦ found_none c.in_ok-found.found.items (vec_len c.in_ok-found.found) c.in_ok-found.found.ok.0 w.if-is_empty.ensures found.0
      | are_entries_said-then-is_empty-via-else-is_empty+in_ok-is_said_by+then-not-branch w ↦
          (let bad = w.in_ok-is_said_by.ensures.1 (subst (λ l. IsSaidBy v (values_of l)) (sym w.deref.ensures.value) found.1) in cc (bad, w.if-not-branch.true))
    ])

pub are_entries_said-loop-entry-preserved : goal.are_entries_said-loop-entry-preserved
are_entries_said-loop-entry-preserved t c =
    let es = c.args.entries.now in
    let others = values_of c.args.others.now in
    let entry = c.entry-item.result in
    let key = value_of entry.key in
    let v = plain entry.value in
    let there = read_place pair_of c.as_slice-entry-items.result.now entry (pairs es) c.loop-entry.entry-index c.as_slice-entry-items.ensures c.loop-entry-test.true c.entry-item.is in
    let found = values_of c.in_ok-found.found.items in
    λ k other x l e.
    each_more (λ p. IsEntrySaid p.0 p.1 others) (pairs es) c.loop-entry.entry-index (key, v) (λ j p less is. c.loop-entry.invariant j p.0 p.1 less is) there
    (entry_said key v others found c.in_ok-found.ensures (
      found_some c.in_ok-found.found.items (vec_len c.in_ok-found.found) c.in_ok-found.found.ok.0 c.if-is_empty.ensures,
      subst (λ l. IsSaidBy v (values_of l)) c.deref.ensures.value (c.in_ok-is_said_by.ensures.0 c.if-not-branch.false),
    )) k (other, x) l e

pub are_entries_said-returns : goal.are_entries_said-returns
are_entries_said-returns t c =
    let es = c.args.entries.now in
    yes_answer ((entries_said es (values_of c.args.others.now)).0 (λ key v at.
    let s = at_place key v (pairs es) at in
    let within = place_within (key, v) (pairs es) s.0 s.1 in
    let past = c.loop-entry-test.false in
    let long = length-map c.as_slice-entry-items.result.now pair_of in
    c.loop-entry.invariant s.0 key v (omega (arith, within, past, long, ap length c.as_slice-entry-items.ensures)) s.1))

pub are_values_said-is_said_by-requires : goal.are_values_said-is_said_by-requires
are_values_said-is_said_by-requires t c =
    let vs = c.args.values.now in
    let v = plain c.unwrap.result.now in
    let own = answered (λ found. plain found.now) c.get.result c.unwrap.result (values_list vs) c.loop-at.at c.get.ensures c.unwrap.ensures in
    let one = shape_in vs (values_of c.args.others.now) c.loop-at.at v c.requires own (values_of c.in_ok-found.found.items) c.in_ok-found.ensures in
    (omega (arith, c.decreases, value_size vs c.loop-at.at v own), subst (λ l. AreOfOneShape (v ∷ values_of l)) (sym c.deref.ensures.value) one)

pub are_values_said-returns-then-not-branch : goal.are_values_said-returns-then-not-branch
are_values_said-returns-then-not-branch t c =
    let vs = c.args.values.now in
    let others = values_of c.args.others.now in
    let v = plain c.unwrap.result.now in
    let own = answered (λ found. plain found.now) c.get.result c.unwrap.result (values_list vs) c.loop-at.at c.get.ensures c.unwrap.ensures in
    no_answer (λ all.
    let said = (field_said c.loop-at.at v others (values_of c.in_ok-found.found.items) c.in_ok-found.ensures).1 ((fields_said vs others).1 all c.loop-at.at v own) in
    let bad = c.in_ok-is_said_by.ensures.1 (subst (λ l. IsSaidBy v (values_of l)) (sym c.deref.ensures.value) said) in
    cc (bad, c.if-not-branch.true))

pub are_values_said-loop-at-preserved : goal.are_values_said-loop-at-preserved
are_values_said-loop-at-preserved t c =
    let vs = c.args.values.now in
    let others = values_of c.args.others.now in
    let v = plain c.unwrap.result.now in
    let own = answered (λ found. plain found.now) c.get.result c.unwrap.result (values_list vs) c.loop-at.at c.get.ensures c.unwrap.ensures in
    each_value (λ k x. IsFieldSaid k x others) (values_list vs) c.loop-at.at v c.loop-at.invariant own
    ((field_said c.loop-at.at v others (values_of c.in_ok-found.found.items) c.in_ok-found.ensures).0
    (subst (λ l. IsSaidBy v (values_of l)) c.deref.ensures.value (c.in_ok-is_said_by.ensures.0 c.if-not-branch.false)))

pub are_values_said-returns : goal.are_values_said-returns
are_values_said-returns t c =
    let vs = c.args.values.now in
    yes_answer ((fields_said vs (values_of c.args.others.now)).0 (λ k v e.
    let within = place_within v (values_list vs) k e in
    c.loop-at.invariant k v (omega (arith, within, c.loop-at-test.false, c.len-at-end.ensures)) e))
