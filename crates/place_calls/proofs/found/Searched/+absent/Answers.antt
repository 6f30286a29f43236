use Rattle.std.proofs.Common.{sym, ap, ◌∙◌, subst, arith, length}
use Rattle.bag_model.specs.Shapes.{fields}
use Rattle.bag_model.specs.Slots.{slots_in}
use Rattle.bag_model.specs.Readings.{node_path}
use Rattle.field_table.specs.Plain.{nodes_of, shape_of}
use Rattle.field_table.proofs.Held.{own_slot, no_bag}
use Rattle.field_table.proofs.Shown.{bag_shown}
use Rattle.bag_scan.proofs.FieldGets.{opened, field_at, field_there, field_smaller}
use Rattle.bag_scan.proofs.SpanLaws.{all_fields}
use Rattle.place_calls.specs.Found.{PutsPlacesOf}
use Rattle.place_calls.proofs.FoundLaws.{count_none, count_next, count_all, count_fits, gap_below, gap_there, puts_none, puts_one, puts_field}
use Rattle.place_calls.proofs.found.Searched.+absent.Goals as goal

pub put_absent-returns-in-Bag-clause-places : goal.put_absent-returns-in-Bag-clause-places
put_absent-returns-in-Bag-clause-places t c = λ q gap.
    subst (λ slots. PutsPlacesOf c.args.self.now slots q c.args.slot c.args.places.now c.put_absent_fields.new.places)
    (sym (ap slots_in (ap shape_of c.in-Bag.is ∙ bag_shown c.in-Bag.fields))) (c.put_absent_fields.ensures.places q gap)

pub put_absent-overflow_add-result : goal.put_absent-overflow_add-result
put_absent-overflow_add-result t c =
    omega (arith, c.requires.count, ap length (own_slot (shape_of c.args.shape.now) (no_bag c.args.shape.now c.in_default.not-Bag)))

pub put_absent-returns : goal.put_absent-returns
put_absent-returns t c =
    let shape = shape_of c.args.shape.now in
    let own = own_slot shape (no_bag c.args.shape.now c.in_default.not-Bag) in
    record {
      places = λ q gap.
          subst (PutsPlacesOf c.args.self.now (slots_in shape) q c.args.slot c.args.places.now) (sym c.put.ensures)
          (puts_one c.args.self.now shape q c.args.slot c.args.places.now c.place_of_gap.result own
          (gap_there c.args.self.now q shape c.args.stop c.place_of_gap.result gap c.place_of_gap.ensures));
      next = omega (arith, ap length own);
    }

pub put_absent_fields-loop-at-init : goal.put_absent_fields-loop-at-init
put_absent_fields-loop-at-init t c = record {
  places = λ q gap. puts_none c.args.self.now q c.args.slot c.args.places.now;
  count = count_none (nodes_of c.args.fields.now) c.args.slot;
}

pub put_absent_fields-unwrap-requires : goal.put_absent_fields-unwrap-requires
put_absent_fields-unwrap-requires t c = field_there c.args.fields.now c.loop-at.at c.get.result c.get.ensures (omega (arith, c.loop-at-test.true, c.len-at-end.ensures))

pub put_absent_fields-put_absent-next-requires : goal.put_absent_fields-put_absent-next-requires
put_absent_fields-put_absent-next-requires t c =
    let nodes = nodes_of c.args.fields.now in
    let at = c.loop-at.at in
    let f = opened c.unwrap.result.now in
    let there = field_at c.args.fields.now at c.get.result c.unwrap.result c.get.ensures c.unwrap.ensures in
    let less = field_smaller c.args.fields.now at c.get.result c.unwrap.result c.get.ensures c.unwrap.ensures in
    let (q, gap) = c.requires.gap in (
      omega (arith, c.decreases, less),
      (
        c.requires.searched,
        (
          (node_path q f.number, gap_below c.args.self.now.list.now q c.args.stop f.number gap),
          count_fits nodes at f c.args.slot c.loop-at.next _ there c.loop-at.invariant.count c.requires.count,
        ),
      ),
    )

pub put_absent_fields-loop-at-preserved : goal.put_absent_fields-loop-at-preserved
put_absent_fields-loop-at-preserved t c =
    let nodes = nodes_of c.args.fields.now in
    let at = c.loop-at.at in
    let f = opened c.unwrap.result.now in
    let there = field_at c.args.fields.now at c.get.result c.unwrap.result c.get.ensures c.unwrap.ensures in
    record {
      places = λ q gap.
          puts_field c.args.self.now (fields nodes) at f q c.args.slot c.loop-at.next c.args.places.now c.loop-at.places c.put_absent-next.new.places there c.loop-at.invariant.count
          (c.loop-at.invariant.places q gap) (c.put_absent-next.ensures.places (node_path q f.number) (gap_below c.args.self.now.list.now q c.args.stop f.number gap));
      count = count_next nodes at f c.args.slot c.loop-at.next c.put_absent-next.result there c.loop-at.invariant.count c.put_absent-next.ensures.next;
    }

pub put_absent_fields-returns-clause-places : goal.put_absent_fields-returns-clause-places
put_absent_fields-returns-clause-places t c = λ q gap.
    all_fields (λ slots. PutsPlacesOf c.args.self.now slots q c.args.slot c.args.places.now c.loop-at.places) (nodes_of c.args.fields.now) c.loop-at.at
    (omega (arith, c.loop-at-test.false, c.len-at-end.ensures)) (c.loop-at.invariant.places q gap)

pub put_absent_fields-returns-clause-next : goal.put_absent_fields-returns-clause-next
put_absent_fields-returns-clause-next t c =
    count_all (nodes_of c.args.fields.now) c.loop-at.at c.args.slot c.loop-at.next (omega (arith, c.loop-at-test.false, c.len-at-end.ensures)) c.loop-at.invariant.count
