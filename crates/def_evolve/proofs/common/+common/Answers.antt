use Rattle.std.proofs.Common.{◌≡◌, ◌+◌, length, ap, ◌∙◌, arith}
use Rattle.bag_model.specs.Shapes.{Bag, fields}
use Rattle.bag_model.proofs.PathLaws.{is_field}
use Rattle.field_table.specs.Plain.{nodes_of, shape_of}
use Rattle.field_table.proofs.Held.{no_bag, fewer}
use Rattle.field_table.proofs.Shown.{bag_shown}
use Rattle.def_evolve.proofs.CommonPaths.{common_of, count_is, count_from, no_partner_count, partner_count, count_ends, few_of, bag_and_other, other_and_bag, other_and_other}
use Rattle.def_evolve.proofs.FieldPlaces.{nodes_from_place, opened, field_at, field_smaller, found_open, none_open, found_shape}
use Rattle.def_evolve.proofs.common.+common.Goals as goal
use Rattle.def_evolve.proofs.common.+common.Goals.{common_fields-in-Some, common_fields-in_default}

pub common_fields-common_slots-common-requires : goal.common_fields-common_slots-common-requires
common_fields-common_slots-common-requires t c =
    let nodes = nodes_of c.args.fields.now in
    let f = opened c.unwrap-field.result.now in
    let at = field_at c.args.fields.now c.loop-at.at c.get.result c.unwrap-field.result c.get.ensures c.unwrap-field.ensures in
    let less = field_smaller c.args.fields.now c.loop-at.at c.get.result c.unwrap-field.result c.get.ensures c.unwrap-field.ensures in
    let found = found_open (fields (nodes_of c.args.others.now)) c.from.result f.number c.in-Some.field-0-0 c.in-Some.other.now c.from.ensures c.in-Some.ensures.found in
    let inside = fewer nodes c.loop-at.at f at in (
      omega (arith, c.decreases, less),
      (
        (is_field nodes c.loop-at.at f c.requires.old at).1,
        (
          found_shape (nodes_of c.args.others.now) f.number c.in-Some.field-0-0 (opened c.in-Some.other.now) c.requires.new found,
          omega (arith, inside, c.requires.small),
        ),
      ),
    )

pub common_fields-overflow_add-common : goal.common_fields-overflow_add-common
common_fields-overflow_add-common t c =
    let nodes = nodes_of c.args.fields.now in
    let others = nodes_of c.args.others.now in
    let f = opened c.unwrap-field.result.now in
    let g = opened c.in-Some.other.now in
    let at = field_at c.args.fields.now c.loop-at.at c.get.result c.unwrap-field.result c.get.ensures c.unwrap-field.ensures in
    let found = found_open (fields others) c.from.result f.number c.in-Some.field-0-0 c.in-Some.other.now c.from.ensures c.in-Some.ensures.found in
    let own = count_is f.shape g.shape c.common_slots-common.result (is_field nodes c.loop-at.at f c.requires.old at).1 (found_shape others f.number c.in-Some.field-0-0 g c.requires.new found) c.common_slots-common.ensures in
    let turn = partner_count nodes others c.requires.new c.loop-at.at f at c.in-Some.field-0-0 g found in
    record { fits = omega (arith, own, turn, c.loop-at.invariant, few_of nodes others, c.requires.small) }

pub common_fields-loop-at-preserved : goal.common_fields-loop-at-preserved
common_fields-loop-at-preserved t c =
    let nodes = nodes_of c.args.fields.now in
    let others = nodes_of c.args.others.now in
    let f = opened c.unwrap-field.result.now in
    let at = field_at c.args.fields.now c.loop-at.at c.get.result c.unwrap-field.result c.get.ensures c.unwrap-field.ensures in
    let whole : length (common_of nodes others) ≡ c.loop-at.common + length (common_of (nodes_from_place c.loop-at.at nodes) others) = c.loop-at.invariant in
    elim c.match-find_number.branch [
      | common_fields-in-Some w ↦
          let g = opened w.in-Some.other.now in
          let found = found_open (fields others) c.from.result f.number w.in-Some.field-0-0 w.in-Some.other.now c.from.ensures w.in-Some.ensures.found in
          let own = count_is f.shape g.shape w.common_slots-common.result (is_field nodes c.loop-at.at f c.requires.old at).1 (found_shape others f.number w.in-Some.field-0-0 g c.requires.new found) w.common_slots-common.ensures in
          let turn = partner_count nodes others c.requires.new c.loop-at.at f at w.in-Some.field-0-0 g found in
          omega (arith, whole, own, turn, w.common-is)
      | common_fields-in_default w ↦
          let turn : length (common_of (nodes_from_place c.loop-at.at nodes) others) ≡ length (common_of (nodes_from_place (c.loop-at.at + 1) nodes) others) = no_partner_count nodes others c.requires.new c.loop-at.at f at (none_open (fields others) c.from.result f.number c.from.ensures (w.in_default.ensures.found)) in
          omega (arith, whole, turn, w.common-is)
    ]

pub common_fields-returns : goal.common_fields-returns
common_fields-returns t c =
    let nodes = nodes_of c.args.fields.now in
    let others = nodes_of c.args.others.now in
    let whole : length (common_of nodes others) ≡ c.loop-at.common + length (common_of (nodes_from_place c.loop-at.at nodes) others) = c.loop-at.invariant in
    let ends = count_ends nodes others c.loop-at.at (omega (arith, c.loop-at-test.false, c.len-at-end.ensures)) in
    count_from (Bag nodes) (Bag others) c.loop-at.common c.requires.old c.requires.new (omega (arith, whole, ends))

pub common_slots-returns-in_default-new : goal.common_slots-returns-in_default-new
common_slots-returns-in_default-new t c =
    let old = shape_of c.args.old.now in
    let new = shape_of c.args.new.now in
    count_from old new 0 c.requires.old c.requires.new
    (bag_and_other (nodes_of c.in-Bag.fields) old new (ap shape_of c.in-Bag.is ∙ bag_shown c.in-Bag.fields) (no_bag c.args.new.now c.in_default-new.not-Bag))

pub common_slots-returns-in-Bag-new-2 : goal.common_slots-returns-in-Bag-new-2
common_slots-returns-in-Bag-new-2 t c =
    let old = shape_of c.args.old.now in
    let new = shape_of c.args.new.now in
    count_from old new 0 c.requires.old c.requires.new
    (other_and_bag (nodes_of c.in-Bag-new-2.field-0) old new (no_bag c.args.old.now c.in_default.not-Bag) (ap shape_of c.in-Bag-new-2.is ∙ bag_shown c.in-Bag-new-2.field-0))

pub common_slots-returns-in_default-new-2 : goal.common_slots-returns-in_default-new-2
common_slots-returns-in_default-new-2 t c =
    let old = shape_of c.args.old.now in
    let new = shape_of c.args.new.now in
    count_from old new 1 c.requires.old c.requires.new (other_and_other old new (no_bag c.args.old.now c.in_default.not-Bag) (no_bag c.args.new.now c.in_default-new-2.not-Bag))
