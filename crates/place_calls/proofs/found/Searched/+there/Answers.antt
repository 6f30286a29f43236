use Rattle.std.proofs.Common.{ℕ, ◌+◌, List, take, sym, ap, ◌∙◌, subst, arith, length}
use Rattle.context_model.specs.Paths.{path_before}
use Rattle.bag_model.proofs.SizeLaws.{size_at}
use Rattle.bag_model.proofs.SlotLaws.{slots_list}
use Rattle.place_calls.specs.declared.places.Place.{Place}
use Rattle.field_table.proofs.Held.{levels_there}
use Rattle.bag_scan.proofs.FieldTurns.{IsBefore, before_first, field_turn, field_gap}
use Rattle.bag_model.specs.Shapes.{fields}
use Rattle.bag_model.specs.Slots.{slots_in}
use Rattle.bag_model.specs.Readings.{node_path}
use Rattle.field_table.specs.Plain.{nodes_of, shape_of}
use Rattle.field_table.proofs.Held.{own_slot, no_bag}
use Rattle.bag_scan.proofs.FieldGets.{opened, field_at, field_there}
use Rattle.bag_scan.proofs.SpanLaws.{all_fields}
use Rattle.place_calls.specs.Found.{PutsPlacesOf}
use Rattle.place_calls.proofs.FoundLaws.{count_none, count_next, count_all, count_fits, part_found, part_there, puts_none, puts_one, puts_field}
use Rattle.place_calls.proofs.found.Searched.+there.Goals as goal
use Rattle.place_calls.proofs.found.Searched.+there.Goals.{put_fields-in-Ok, put_fields-in-Err}

pub put_field-place_of_part-requires : goal.put_field-place_of_part-requires
put_field-place_of_part-requires t c =
    let list = c.args.self.now.list.now in
    let part = part_found list c.args.from c.args.level c.check_part-stop.result.0 (shape_of c.args.shape.now) c.check_part-stop.result.1 c.requires.behind c.requires.level c.check_part-stop.ensures.stop c.check_part-stop.ensures.misspelled in
    record { searched = c.requires.searched; part = (path_before list c.args.from, shape_of c.args.shape.now, part) }

pub put_field-overflow_add-result : goal.put_field-overflow_add-result
put_field-overflow_add-result t c =
    omega (arith, c.requires.count, ap length (own_slot (shape_of c.args.shape.now) (no_bag c.args.shape.now c.in_default.not-Bag)))

pub put_field-returns : goal.put_field-returns
put_field-returns t c =
    let list = c.args.self.now.list.now in
    let q = path_before list c.args.from in
    let shape = shape_of c.args.shape.now in
    let own = own_slot shape (no_bag c.args.shape.now c.in_default.not-Bag) in
    let part = part_found list c.args.from c.args.level c.check_part-stop.result.0 shape c.check_part-stop.result.1 c.requires.behind c.requires.level c.check_part-stop.ensures.stop c.check_part-stop.ensures.misspelled in
    record {
      places = subst (PutsPlacesOf c.args.self.now (slots_in shape) q c.args.slot c.args.places.now) (sym c.put.ensures)
          (puts_one c.args.self.now shape q c.args.slot c.args.places.now c.place_of_part.result own (part_there c.args.self.now q shape c.args.from c.check_part-stop.result.0 c.check_part-stop.result.1 c.place_of_part.result part c.place_of_part.ensures));
      stop = c.check_part-stop.ensures.stop;
      next = omega (arith, ap length own);
    }

pub put_fields-loop-at-init : goal.put_fields-loop-at-init
put_fields-loop-at-init t c = record {
  places = puts_none c.args.self.now (path_before c.args.self.now.list.now c.args.from) c.args.slot c.args.places.now;
  before = before_first c.args.self.now.list.now c.args.level (nodes_of c.args.fields.now) c.args.from c.requires.behind.within;
  count = count_none (nodes_of c.args.fields.now) c.args.slot;
}

pub put_fields-unwrap-field-requires : goal.put_fields-unwrap-field-requires
put_fields-unwrap-field-requires t c = field_there c.args.fields.now c.loop-at.at c.get.result c.get.ensures (omega (arith, c.loop-at-test.true, c.len-at-end.ensures))

pub put_fields-find_field-requires-clause-level : goal.put_fields-find_field-requires-clause-level
put_fields-find_field-requires-clause-level t c =
    let there = field_at c.args.fields.now c.loop-at.at c.get.result c.unwrap-field.result c.get.ensures c.unwrap-field.ensures in
    omega (arith, levels_there (nodes_of c.args.fields.now) c.loop-at.at (opened c.unwrap-field.result.now) there, c.requires.room)

pub put_fields-returns-clause-places : goal.put_fields-returns-clause-places
put_fields-returns-clause-places t c =
    all_fields (λ slots. PutsPlacesOf c.args.self.now slots (path_before c.args.self.now.list.now c.args.from) c.args.slot c.args.places.now c.loop-at.places) (nodes_of c.args.fields.now) c.loop-at.at
    (omega (arith, c.loop-at-test.false, c.len-at-end.ensures)) c.loop-at.invariant.places

pub put_fields-returns-clause-next : goal.put_fields-returns-clause-next
put_fields-returns-clause-next t c =
    count_all (nodes_of c.args.fields.now) c.loop-at.at c.args.slot c.loop-at.next (omega (arith, c.loop-at-test.false, c.len-at-end.ensures)) c.loop-at.invariant.count

pub put_fields-put_field-requires : goal.put_fields-put_field-requires
put_fields-put_field-requires t c =
    let list = c.args.self.now.list.now in
    let nodes = nodes_of c.args.fields.now in
    let at = c.loop-at.at in
    let f = opened c.unwrap-field.result.now in
    let there = field_at c.args.fields.now at c.get.result c.unwrap-field.result c.get.ensures c.unwrap-field.ensures in
    let turn = field_turn list (path_before list c.args.from) c.args.from c.args.level nodes at f c.loop-at.place c.requires.level c.requires.behind c.requires.fields c.requires.room
    there c.loop-at.invariant.before c.from.result c.from.ensures c.in-Ok.behind c.in-Ok.ensures.found in
    let count = count_fits nodes at f c.args.slot c.loop-at.next _ there c.loop-at.invariant.count c.requires.count in
    (omega (arith, c.decreases, size_at nodes at f there), (c.requires.searched, (turn.starts, (turn.deeper, (turn.shape, (turn.room, count))))))

pub put_fields-put_absent-next-requires-clause-gap : goal.put_fields-put_absent-next-requires-clause-gap
put_fields-put_absent-next-requires-clause-gap t c =
    let list = c.args.self.now.list.now in
    let nodes = nodes_of c.args.fields.now in
    let at = c.loop-at.at in
    let f = opened c.unwrap-field.result.now in
    let there = field_at c.args.fields.now at c.get.result c.unwrap-field.result c.get.ensures c.unwrap-field.ensures in
    let gap = field_gap list (path_before list c.args.from) c.args.from c.args.level nodes at f c.loop-at.place c.requires.level c.requires.behind c.requires.fields c.requires.room
    there c.loop-at.invariant.before c.from.result c.from.ensures c.in-Err.stop c.in-Err.ensures.missing in
    (node_path (path_before list c.args.from) f.number, record { bare = gap.bare; first = gap.beyond })

pub put_fields-put_absent-next-requires-clause-count : goal.put_fields-put_absent-next-requires-clause-count
put_fields-put_absent-next-requires-clause-count t c =
    let nodes = nodes_of c.args.fields.now in
    let at = c.loop-at.at in
    let f = opened c.unwrap-field.result.now in
    let there = field_at c.args.fields.now at c.get.result c.unwrap-field.result c.get.ensures c.unwrap-field.ensures in
    count_fits nodes at f c.args.slot c.loop-at.next _ there c.loop-at.invariant.count c.requires.count

pub put_fields-loop-at-preserved : goal.put_fields-loop-at-preserved
put_fields-loop-at-preserved t c =
    let searched = c.args.self.now in
    let list = searched.list.now in
    let q = path_before list c.args.from in
    let nodes = nodes_of c.args.fields.now in
    let at = c.loop-at.at in
    let f = opened c.unwrap-field.result.now in
    let there = field_at c.args.fields.now at c.get.result c.unwrap-field.result c.get.ensures c.unwrap-field.ensures in
    let come = c.loop-at.invariant in
    let more = λ (new : List Place). puts_field searched (fields nodes) at f q c.args.slot c.loop-at.next c.args.places.now c.loop-at.places new there come.count come.places in
    let Places = PutsPlacesOf searched (slots_list (take (at + 1) (fields nodes))) q c.args.slot c.args.places.now in
    let Before = IsBefore list c.args.level nodes c.args.from (at + 1) in
    let counted = λ (later : ℕ). count_next nodes at f c.args.slot c.loop-at.next later there come.count in
    elim c.match-find_field.branch [
      | put_fields-in-Ok w ↦ (
          let turn = field_turn list q c.args.from c.args.level nodes at f c.loop-at.place c.requires.level c.requires.behind c.requires.fields c.requires.room
          there come.before c.from.result c.from.ensures w.in-Ok.behind w.in-Ok.ensures.found in
          record {
            places = subst Places (sym w.places-is)
                (more w.put_field.new.places (subst (λ p. PutsPlacesOf searched (slots_in f.shape) p c.loop-at.next c.loop-at.places w.put_field.new.places) turn.path w.put_field.ensures.places));
            before = subst Before (sym w.place-is) (turn.passed w.put_field.result.0 w.put_field.ensures.stop);
            count = counted c.match-find_field.next (w.next-is ∙ w.put_field.ensures.next);
          })
      | put_fields-in-Err w ↦ (
          let gap = field_gap list q c.args.from c.args.level nodes at f c.loop-at.place c.requires.level c.requires.behind c.requires.fields c.requires.room
          there come.before c.from.result c.from.ensures w.in-Err.stop w.in-Err.ensures.missing in
          record {
            places = subst Places (sym w.places-is) (more w.put_absent-next.new.places (w.put_absent-next.ensures.places (node_path q f.number) (record { bare = gap.bare; first = gap.beyond })));
            before = subst Before (sym w.place-is) gap.passed;
            count = counted c.match-find_field.next (w.next-is ∙ w.put_absent-next.ensures.next);
          })
    ]
