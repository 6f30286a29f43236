use Rattle.std.proofs.Common.{◌≡◌, ◌+◌, ◌<◌, true, false, sym, ap, ◌∙◌, subst, arith}
use Rattle.context_model.specs.Paths.{path_before}
use Rattle.bag_model.specs.declared.Pick.TheVariants.{Least, Greatest}
use Rattle.bag_model.specs.NormalForm.{LeastDatum, GreatestDatum}
use Rattle.bag_model.specs.Shapes as model
use Rattle.bag_model.specs.Typed.{IsSpelling}
use Rattle.scalar_types.specs.KindViews.{kind_of}
use Rattle.field_table.specs.Plain.{nodes_of, shape_of}
use Rattle.bag_model.proofs.SizeLaws.{size_at}
use Rattle.bag_scan.proofs.FieldGets.{opened}
use Rattle.bag_scan.proofs.KeyTurns.{key_turn}
use Rattle.bag_walks.proofs.Turns.{stays_none}
use Rattle.scalar_types.proofs.KindSpelled.{spelling_told}
use Rattle.field_table.proofs.Shown.{scalar_shown, greatest_shown, counter_shown, map_shown}
use Rattle.bag_normal.specs.Data.{AddsPlaces}
use Rattle.bag_normal.specs.Known.{GivesWayAt, IsSupersededIn, HoldsAtKey}
use Rattle.bag_normal.proofs.Places.{rises_on, adds_none, adds_same, on_ok}
use Rattle.bag_normal.proofs.Below.{scalar_is, counter_is, map_is, bag_is, InField, IsSupersededAtKey, at_spelling, at_none, key_superseded, node_superseded}
use Rattle.bag_normal.proofs.FieldHeaders.{field_turn, fields_all, HoldsAtField}
use Rattle.bag_scan.proofs.FieldHeaders.{found_open}
use Rattle.bag_normal.proofs.Keys.{keys_more, keys_all}
use Rattle.bag_normal.proofs.fields.+adding.Goals as goal

-- ---- a field, by its shape

pub add_field-returns-in-Taint-clause-rises : goal.add_field-returns-in-Taint-clause-rises
add_field-returns-in-Taint-clause-rises t c = rises_on c.args.gone.now.items c.args.from c.segment_end.result c.segment_end.ensures.part.rises c.requires.rises

pub add_field-returns-in-Set-clause-rises : goal.add_field-returns-in-Set-clause-rises
add_field-returns-in-Set-clause-rises t c = rises_on c.args.gone.now.items c.args.from c.segment_end-in-Set.result c.segment_end-in-Set.ensures.part.rises c.requires.rises

pub add_field-returns-in_ok-to-in-Scalar-clause-rises : goal.add_field-returns-in_ok-to-in-Scalar-clause-rises
add_field-returns-in_ok-to-in-Scalar-clause-rises t c =
    rises_on c.add_other_data.new.gone.items c.in_ok-to-in-Scalar.to c.segment_end-in-Scalar.result c.segment_end-in-Scalar.ensures.part.rises c.in_ok-to-in-Scalar.ensures.rises

pub add_field-returns-in_ok-to-in-Scalar-clause-adds : goal.add_field-returns-in_ok-to-in-Scalar-clause-adds
add_field-returns-in_ok-to-in-Scalar-clause-adds t c =
    let list = c.args.list.now in
    let q = path_before list c.args.from in
    let kind = c.in-Scalar.field-0 in
    let shown : shape_of c.args.shape.now ≡ model.Shape.Scalar Least (kind_of kind) = ap shape_of c.in-Scalar.is ∙ (scalar_shown kind).0 in
    subst (λ (shape : model.Shape). AddsPlaces (IsSupersededIn shape list q) c.args.gone.now.items c.add_other_data.new.gone.items) (sym shown)
    (adds_same (GivesWayAt LeastDatum list q) (IsSupersededIn (model.Shape.Scalar Least (kind_of kind)) list q) c.args.gone.now.items c.add_other_data.new.gone.items
    (scalar_is Least (kind_of kind) list q) c.in_ok-to-in-Scalar.ensures.adds)

pub add_field-returns-in_ok-to-in-Greatest-clause-rises : goal.add_field-returns-in_ok-to-in-Greatest-clause-rises
add_field-returns-in_ok-to-in-Greatest-clause-rises t c =
    rises_on c.add_other_data-in-Greatest.new.gone.items c.in_ok-to-in-Greatest.to c.segment_end-in-Greatest.result c.segment_end-in-Greatest.ensures.part.rises c.in_ok-to-in-Greatest.ensures.rises

pub add_field-returns-in_ok-to-in-Greatest-clause-adds : goal.add_field-returns-in_ok-to-in-Greatest-clause-adds
add_field-returns-in_ok-to-in-Greatest-clause-adds t c =
    let list = c.args.list.now in
    let q = path_before list c.args.from in
    let kind = c.in-Greatest.field-0 in
    let shown : shape_of c.args.shape.now ≡ model.Shape.Scalar Greatest (kind_of kind) = ap shape_of c.in-Greatest.is ∙ (greatest_shown kind).0 in
    subst (λ (shape : model.Shape). AddsPlaces (IsSupersededIn shape list q) c.args.gone.now.items c.add_other_data-in-Greatest.new.gone.items) (sym shown)
    (adds_same (GivesWayAt GreatestDatum list q) (IsSupersededIn (model.Shape.Scalar Greatest (kind_of kind)) list q) c.args.gone.now.items c.add_other_data-in-Greatest.new.gone.items
    (scalar_is Greatest (kind_of kind) list q) c.in_ok-to-in-Greatest.ensures.adds)

pub add_field-returns-in-Counter-clause-adds : goal.add_field-returns-in-Counter-clause-adds
add_field-returns-in-Counter-clause-adds t c =
    let list = c.args.list.now in
    let q = path_before list c.args.from in
    let after = c.add_counts.new.gone.items in
    let shown : shape_of c.args.shape.now ≡ model.Shape.Counter = ap shape_of c.in-Counter.is ∙ counter_shown.0 in
    let added = λ (a : AddsPlaces (HoldsAtKey (GivesWayAt GreatestDatum list) q) c.args.gone.now.items after).
    subst (λ (shape : model.Shape). AddsPlaces (IsSupersededIn shape list q) c.args.gone.now.items after) (sym shown)
    (adds_same (HoldsAtKey (GivesWayAt GreatestDatum list) q) (IsSupersededIn model.Shape.Counter list q) c.args.gone.now.items after (counter_is list q) a) in
    on_ok c.add_counts.result added c.add_counts.ensures.adds

pub add_field-returns-in-Map-clause-adds : goal.add_field-returns-in-Map-clause-adds
add_field-returns-in-Map-clause-adds t c =
    let list = c.args.list.now in
    let q = path_before list c.args.from in
    let after = c.add_values.new.gone.items in
    let key = c.in-Map.key in
    let value = shape_of c.deref.result.now in
    let shown : shape_of c.args.shape.now ≡ model.Shape.Map (kind_of key) value =
    ap shape_of c.in-Map.is ∙ map_shown key c.in-Map.value ∙ ap (λ s. model.Shape.Map (kind_of key) (shape_of s)) (sym c.deref.ensures) in
    let added = λ (a : AddsPlaces (IsSupersededIn (model.Shape.Map (kind_of key) value) list q) c.args.gone.now.items after).
    subst (λ (shape : model.Shape). AddsPlaces (IsSupersededIn shape list q) c.args.gone.now.items after) (sym shown) a in
    on_ok c.add_values.result added c.add_values.ensures.adds

-- ---- the values of a map

pub add_values-add_field-requires : goal.add_values-add_field-requires
add_values-add_field-requires t c =
    let list = c.args.list.now in
    let q = path_before list c.args.from in
    let key = c.in-Ok.key.now in
    let few : c.args.level < 16 = omega (arith, c.requires.room) in
    let turn = key_turn list q c.args.from c.args.level c.keys.place c.requires.level few c.requires.behind c.keys.invariant.keys.stays key c.in-Ok.start c.in-Ok.ensures.found in
    let rises = rises_on c.keys.gone.items c.keys.place c.in-Ok.start (omega (arith, turn.found.next, turn.found.before.stays.rises)) c.keys.invariant.rises in
    (omega (arith, c.decreases), (turn.starts, (turn.deeper, (c.requires.shape, (c.requires.room, rises)))))

pub add_values-keys-preserved-then-spelled : goal.add_values-keys-preserved-then-spelled
add_values-keys-preserved-then-spelled t c =
    let list = c.args.list.now in
    let q = path_before list c.args.from in
    let key = c.in-Ok.key.now in
    let few : c.args.level < 16 = omega (arith, c.requires.room) in
    let turn = key_turn list q c.args.from c.args.level c.keys.place c.requires.level few c.requires.behind c.keys.invariant.keys.stays key c.in-Ok.start c.in-Ok.ensures.found in
    let here = path_before list c.in-Ok.start in
    let kind = kind_of c.args.kind.now in
    let shape = shape_of c.args.shape.now in
    let P = IsSupersededAtKey kind shape list q in
    let spelled = (spelling_told kind key).0 (c.spelled.ensures.0 c.if-spelled.true) in
    let after = c.add_field.new.gone.items in
    record {
      rises = c.in_ok-place-in-Ok.ensures.rises;
      keys = keys_more P list q c.args.level c.args.from c.keys.place c.requires.level few c.requires.behind c.args.gone.now.items c.keys.gone.items c.keys.invariant.keys key c.in-Ok.start turn
          c.in_ok-place-in-Ok.place c.in_ok-place-in-Ok.ensures.segment.part after
          (adds_same (IsSupersededIn shape list here) (P here) c.keys.gone.items after (at_spelling kind shape list q here key turn.below.path spelled) c.in_ok-place-in-Ok.ensures.adds);
    }

pub add_values-keys-preserved : goal.add_values-keys-preserved
add_values-keys-preserved t c =
    let list = c.args.list.now in
    let q = path_before list c.args.from in
    let key = c.in-Ok.key.now in
    let few : c.args.level < 16 = omega (arith, c.requires.room) in
    let turn = key_turn list q c.args.from c.args.level c.keys.place c.requires.level few c.requires.behind c.keys.invariant.keys.stays key c.in-Ok.start c.in-Ok.ensures.found in
    let here = path_before list c.in-Ok.start in
    let kind = kind_of c.args.kind.now in
    let shape = shape_of c.args.shape.now in
    let P = IsSupersededAtKey kind shape list q in
    let none : IsSpelling kind key → ⊥ = λ spelled.
    let clash : false ≡ true = sym c.if-spelled.false ∙ c.spelled.ensures.1 ((spelling_told kind key).1 spelled) in
    cc in
    record {
      rises = rises_on c.keys.gone.items c.keys.place c.in-Ok.start (omega (arith, turn.found.next, turn.found.before.stays.rises)) c.keys.invariant.rises;
      keys = keys_more P list q c.args.level c.args.from c.keys.place c.requires.level few c.requires.behind c.args.gone.now.items c.keys.gone.items c.keys.invariant.keys key c.in-Ok.start turn
          c.in-Ok.start (stays_none list (c.args.level + 1) c.in-Ok.start turn.starts.within) c.keys.gone.items
          (adds_none (P here) c.keys.gone.items (at_none kind shape list q here key turn.below.path none));
    }

pub add_values-returns-in-Err-clause-rises : goal.add_values-returns-in-Err-clause-rises
add_values-returns-in-Err-clause-rises t c = rises_on c.keys.gone.items c.keys.place c.in-Err.stop c.in-Err.ensures.none.segment.part.rises c.keys.invariant.rises

pub add_values-returns-in-Err-clause-adds : goal.add_values-returns-in-Err-clause-adds
add_values-returns-in-Err-clause-adds t c =
    let list = c.args.list.now in
    let q = path_before list c.args.from in
    let shape = shape_of c.args.shape.now in
    let few : c.args.level < 16 = omega (arith, c.requires.room) in
    let kind = kind_of c.args.kind.now in
    let P = IsSupersededAtKey kind shape list q in
    adds_same (HoldsAtKey P q) (IsSupersededIn (model.Shape.Map kind shape) list q) c.args.gone.now.items c.keys.gone.items (map_is kind shape list q)
    (keys_all P list q c.args.level c.args.from c.keys.place c.requires.level few c.requires.behind c.args.gone.now.items c.keys.gone.items c.keys.invariant.keys
    c.in-Err.stop c.in-Err.ensures.none (λ key p s. key_superseded shape list q key p s.holds))

-- ---- the fields of a bag

pub add_fields-add_field-requires : goal.add_fields-add_field-requires
add_fields-add_field-requires t c =
    let list = c.args.list.now in
    let nodes = nodes_of c.args.fields.now in
    let f = opened c.in-Ok.field.now in
    let i = c.in-Ok.field-0-0 in
    let found = found_open nodes list c.args.level c.headers.place i c.in-Ok.field.now c.in-Ok.behind c.in-Ok.ensures.found in
    let turn = field_turn nodes (InField list) list (path_before list c.args.from) c.args.level c.args.from c.headers.place c.requires.level c.requires.fields c.requires.room c.requires.behind
    c.args.gone.now.items c.headers.gone.items c.headers.invariant.fields i f c.in-Ok.behind found in
    let rises = rises_on c.headers.gone.items c.headers.place c.in-Ok.behind turn.on c.headers.invariant.rises in
    (omega (arith, c.decreases, size_at nodes i f found.header.there), (turn.starts, (turn.deeper, (turn.shape, (turn.room, rises)))))

pub add_fields-headers-preserved : goal.add_fields-headers-preserved
add_fields-headers-preserved t c =
    let list = c.args.list.now in
    let nodes = nodes_of c.args.fields.now in
    let f = opened c.in-Ok.field.now in
    let i = c.in-Ok.field-0-0 in
    let found = found_open nodes list c.args.level c.headers.place i c.in-Ok.field.now c.in-Ok.behind c.in-Ok.ensures.found in
    let turn = field_turn nodes (InField list) list (path_before list c.args.from) c.args.level c.args.from c.headers.place c.requires.level c.requires.fields c.requires.room c.requires.behind
    c.args.gone.now.items c.headers.gone.items c.headers.invariant.fields i f c.in-Ok.behind found in
    record {
      rises = c.in_ok-place-in-Ok.ensures.rises;
      fields = turn.more c.in_ok-place-in-Ok.place c.in_ok-place-in-Ok.ensures.segment.part c.add_field.new.gone.items c.in_ok-place-in-Ok.ensures.adds;
    }

pub add_fields-returns-in-Err-clause-rises : goal.add_fields-returns-in-Err-clause-rises
add_fields-returns-in-Err-clause-rises t c = rises_on c.headers.gone.items c.headers.place c.in-Err.stop c.in-Err.ensures.none.segment.part.rises c.headers.invariant.rises

pub add_fields-returns-in-Err-clause-adds : goal.add_fields-returns-in-Err-clause-adds
add_fields-returns-in-Err-clause-adds t c =
    let list = c.args.list.now in
    let q = path_before list c.args.from in
    let nodes = nodes_of c.args.fields.now in
    adds_same (HoldsAtField nodes (InField list) q) (IsSupersededIn (model.Shape.Bag nodes) list q) c.args.gone.now.items c.headers.gone.items (bag_is nodes list q)
    (fields_all nodes (InField list) list q c.args.level c.args.from c.headers.place c.requires.level c.requires.fields c.requires.room c.requires.behind c.args.gone.now.items c.headers.gone.items
    c.headers.invariant.fields c.in-Err.stop c.in-Err.ensures.none (λ i f p s. node_superseded f.shape list q f.number p s))
