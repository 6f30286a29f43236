use Rattle.std.proofs.Common.{suc, ◌+◌, length, refl, ap, subst, arith}
use Rattle.context_model.specs.Paths.{path_before}
use Rattle.bag_model.specs.Shapes as model
use Rattle.bag_model.specs.Slots.{starts}
use Rattle.bag_model.proofs.SizeLaws.{size_at}
use Rattle.bag_model.proofs.SlotLaws.{slots_of-list, starts-bound}
use Rattle.bag_scan.proofs.FieldGets.{opened}
use Rattle.field_table.specs.Plain.{nodes_of, shape_of}
use Rattle.field_table.specs.Views.{plain_view_of}
use Rattle.field_table.proofs.Held.{no_bag, start_next}
use Rattle.bag_normal.specs.Data.{AddsPlaces}
use Rattle.bag_normal.specs.Known.{IsKnownSuperseded}
use Rattle.bag_normal.proofs.FieldHeaders.{HoldsAtField, field_turn, fields_all}
use Rattle.bag_scan.proofs.FieldHeaders.{found_open}
use Rattle.bag_normal.proofs.Places.{rises_on, adds_none, adds_same, on_ok}
use Rattle.bag_normal.proofs.SlotTurns.{KnownInField, known_below, known_slot, unknown_slot, known_bag}
use Rattle.bag_normal.specs.Known.{IsSupersededIn}
use Rattle.bag_normal.proofs.known.+known.Goals as goal

-- ---- a field, by its shape

pub add_known-returns-then-knows-clause-adds : goal.add_known-returns-then-knows-clause-adds
add_known-returns-then-knows-clause-adds t c =
    let list = c.args.list.now in
    let q = path_before list c.args.from in
    let shape = shape_of c.args.shape.now in
    let view = plain_view_of c.args.view.now in
    on_ok c.add_field.result (adds_same (IsSupersededIn shape list q) (IsKnownSuperseded view c.args.before shape list q) c.args.gone.now.items c.add_field.new.gone.items
    (known_slot view c.args.before shape list q (no_bag c.args.shape.now c.in_default.not-Bag) (c.if-knows.ensures.0 refl))) c.add_field.ensures.adds

pub add_known-returns-else-knows-clause-rises : goal.add_known-returns-else-knows-clause-rises
add_known-returns-else-knows-clause-rises t c = rises_on c.args.gone.now.items c.args.from c.segment_end.result c.segment_end.ensures.part.rises c.requires.rises

pub add_known-returns-else-knows-clause-adds : goal.add_known-returns-else-knows-clause-adds
add_known-returns-else-knows-clause-adds t c =
    let list = c.args.list.now in
    let q = path_before list c.args.from in
    let shape = shape_of c.args.shape.now in
    let view = plain_view_of c.args.view.now in
    adds_none (IsKnownSuperseded view c.args.before shape list q) c.args.gone.now.items
    (unknown_slot view c.args.before shape list q (no_bag c.args.shape.now c.in_default.not-Bag) (λ knows. let e = c.if-knows.ensures.1 knows in cc))

-- ---- the fields of a bag

pub add_known_fields-overflow_add-start : goal.add_known_fields-overflow_add-start
add_known_fields-overflow_add-start t c =
    let nodes = nodes_of c.args.fields.now in
    record { fits = omega (arith, c.slots_before.ensures, starts-bound (model.fields nodes) c.in-Ok.at, ap length (slots_of-list nodes), c.requires.slots) }

pub add_known_fields-add_known-requires : goal.add_known_fields-add_known-requires
add_known_fields-add_known-requires t c =
    let list = c.args.list.now in
    let q = path_before list c.args.from in
    let nodes = nodes_of c.args.fields.now in
    let f = opened c.in-Ok.field.now in
    let i = c.in-Ok.at in
    let found = found_open nodes list c.args.level c.headers.place i c.in-Ok.field.now c.in-Ok.behind c.in-Ok.ensures.found in
    let R = KnownInField (plain_view_of c.args.view.now) c.args.before nodes list in
    let turn = field_turn nodes R list q c.args.level c.args.from c.headers.place c.requires.level c.requires.ready.fields c.requires.room c.requires.behind c.args.gone.now.items c.headers.gone.items
    c.headers.invariant.fields i f c.in-Ok.behind found in
    let next = start_next (model.fields nodes) i f found.header.there in
    let last = starts-bound (model.fields nodes) (suc i) in
    let rises = rises_on c.headers.gone.items c.headers.place c.in-Ok.behind turn.on c.headers.invariant.rises in (
      omega (arith, c.decreases, size_at nodes i f found.header.there),
      (
        turn.starts,
        (turn.deeper, (turn.shape, (c.in-Ok.ensures.ready c.requires.ready, (turn.room, (omega (arith, c.slots_before.ensures, next, last, ap length (slots_of-list nodes), c.requires.slots), rises))))),
      ),
    )

pub add_known_fields-headers-preserved : goal.add_known_fields-headers-preserved
add_known_fields-headers-preserved t c =
    let list = c.args.list.now in
    let q = path_before list c.args.from in
    let nodes = nodes_of c.args.fields.now in
    let view = plain_view_of c.args.view.now in
    let f = opened c.in-Ok.field.now in
    let i = c.in-Ok.at in
    let found = found_open nodes list c.args.level c.headers.place i c.in-Ok.field.now c.in-Ok.behind c.in-Ok.ensures.found in
    let R = KnownInField view c.args.before nodes list in
    let added : AddsPlaces (R i f (path_before list c.in-Ok.behind)) c.headers.gone.items c.add_known.new.gone.items =
    subst (λ n. AddsPlaces (IsKnownSuperseded view (c.args.before + n) f.shape list (path_before list c.in-Ok.behind)) c.headers.gone.items c.add_known.new.gone.items) c.slots_before.ensures c.in_ok-place-in-Ok.ensures.adds in
    let turn = field_turn nodes R list q c.args.level c.args.from c.headers.place c.requires.level c.requires.ready.fields c.requires.room c.requires.behind c.args.gone.now.items c.headers.gone.items
    c.headers.invariant.fields i f c.in-Ok.behind found in
    record {
      rises = c.in_ok-place-in-Ok.ensures.rises;
      fields = turn.more c.in_ok-place-in-Ok.place c.in_ok-place-in-Ok.ensures.segment.part c.add_known.new.gone.items added;
    }

pub add_known_fields-returns-in-Err-clause-rises : goal.add_known_fields-returns-in-Err-clause-rises
add_known_fields-returns-in-Err-clause-rises t c = rises_on c.headers.gone.items c.headers.place c.in-Err.stop c.in-Err.ensures.none.segment.part.rises c.headers.invariant.rises

pub add_known_fields-returns-in-Err-clause-adds : goal.add_known_fields-returns-in-Err-clause-adds
add_known_fields-returns-in-Err-clause-adds t c =
    let list = c.args.list.now in
    let q = path_before list c.args.from in
    let nodes = nodes_of c.args.fields.now in
    let view = plain_view_of c.args.view.now in
    let R = KnownInField view c.args.before nodes list in
    adds_same (HoldsAtField nodes R q) (IsKnownSuperseded view c.args.before (model.Shape.Bag nodes) list q) c.args.gone.now.items c.headers.gone.items (known_bag view c.args.before nodes list q)
    (fields_all nodes R list q c.args.level c.args.from c.headers.place c.requires.level c.requires.ready.fields c.requires.room c.requires.behind c.args.gone.now.items c.headers.gone.items
    c.headers.invariant.fields c.in-Err.stop c.in-Err.ensures.none (λ i f p s. known_below view (c.args.before + starts (model.fields nodes) i) f.shape list q _ p s))
