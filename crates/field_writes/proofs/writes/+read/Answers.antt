use Rattle.std.proofs.Common.{◌≡◌, ◌++◌, ◌∷◌, [], sym, ap, ◌∙◌, subst, rules, arith}
use Rattle.std.proofs.lemmas.Option.{slice_get_within}
use Rattle.bag_model.specs.Shapes as shapes
use Rattle.bag_model.specs.Shapes.{Field, fields}
use Rattle.bag_model.specs.Sizes.{shape_size}
use Rattle.bag_model.specs.Tables.{IsShape}
use Rattle.bag_model.specs.Values as values
use Rattle.bag_model.specs.Values.{pairs}
use Rattle.bag_model.proofs.PathLaws.{is_field}
use Rattle.bag_value.specs.Vals.{plain}
use Rattle.field_table.specs.Plain.{shape_of, nodes_of}
use Rattle.field_table.specs.declared.shapes.Shape.{Shape}
use Rattle.field_table.proofs.Shown.{bag_shown, counter_shown, map_shown, set_shown}
use Rattle.scalar_types.specs.KindViews.{kind_of}
use Rattle.scalar_types.specs.Scalars.{value_of}
use Rattle.field_writes.specs.Writes.{IsWrite}
use Rattle.field_writes.proofs.Bags.{field_there, size_there}
use Rattle.field_writes.proofs.Whole.{entry_is, field_is_written, no_bag, no_counter, no_field_named, no_field_split, no_field_write, no_key_colon, no_key_literal, no_key_value, no_map, one_entry}
use Rattle.field_writes.proofs.writes.+read.Goals as goal

-- ---- a key with its value

pub read_entry-returns-in_default : goal.read_entry-returns-in_default
read_entry-returns-in_default t c =
    no_key_literal c.args.form (kind_of c.args.kind.now) (shape_of c.args.shape.now) c.args.text.now (rw c.in_default.is at c.in_ok-key.ensures)

pub read_entry-returns-in_default-behind : goal.read_entry-returns-in_default-behind
read_entry-returns-in_default-behind t c =
    no_key_colon c.args.form (kind_of c.args.kind.now) (shape_of c.args.shape.now) c.args.text.now (value_of c.in-Some.key) c.in-Some.rest.now
    (rw c.in-Some.is at c.in_ok-key.ensures) c.in_default-behind.ensures

pub read_entry-read_write-requires : goal.read_entry-read_write-requires
read_entry-read_write-requires t c = (omega (arith, c.decreases), c.requires)

pub read_entry-returns-in_default-2 : goal.read_entry-returns-in_default-2
read_entry-returns-in_default-2 t c =
    no_key_value c.args.form (kind_of c.args.kind.now) (shape_of c.args.shape.now) c.args.text.now (value_of c.in-Some.key) c.in-Some.rest.now c.in-Some-behind.rest.now
    (rw c.in-Some.is at c.in_ok-key.ensures) c.in-Some-behind.ensures (rw c.in_default-2.is at c.in_ok-value.ensures)

pub read_entry-returns : goal.read_entry-returns
read_entry-returns t c =
    let kind = kind_of c.args.kind.now in
    let shape = shape_of c.args.shape.now in
    let key = value_of c.in-Some.key in
    let v = plain c.in-Some-2.value in
    let made = c.in_ok-push.ensures.ok ∙ ap (λ (es : values.Entries). pairs es ++ (key, v) ∷ []) c.new-entries.ensures in
    subst (λ (es : values.Entries). IsWrite c.args.form (shapes.Shape.Map kind shape) (values.Value.Map es) c.args.text.now) (sym (one_entry c.push.new.self key v made))
    (entry_is c.args.form kind shape key v c.args.text.now c.in-Some.rest.now c.in-Some-behind.rest.now (rw c.in-Some.is at c.in_ok-key.ensures) c.in-Some-behind.ensures
    (rw c.in-Some-2.is at c.in_ok-value.ensures))

-- ---- a field of a bag

pub read_field-returns-in_default : goal.read_field-returns-in_default
read_field-returns-in_default t c = no_field_split c.args.form (nodes_of c.args.fields.now) c.args.text.now c.requires c.in_default.ensures

pub read_field-returns-in_default-place_named : goal.read_field-returns-in_default-place_named
read_field-returns-in_default-place_named t c =
    no_field_named c.args.form (nodes_of c.args.fields.now) c.args.text.now c.in-Some.name.now c.in-Some.rest.now c.requires c.in-Some.ensures.0 c.in-Some.ensures.1
    c.in_default-place_named.ensures

pub read_field-read_write-requires : goal.read_field-read_write-requires
read_field-read_write-requires t c =
    let nodes = nodes_of c.args.fields.now in
    let place = c.in-Some-place_named.place in
    let here = field_there c.args.fields.now place c.get.result c.unwrap-field.result c.get.ensures c.unwrap-field.ensures in
    (omega (arith, c.decreases, size_there nodes place _ here), (is_field nodes place _ c.requires here).1)

pub read_field-returns-in_default-2 : goal.read_field-returns-in_default-2
read_field-returns-in_default-2 t c =
    let nodes = nodes_of c.args.fields.now in
    let place = c.in-Some-place_named.place in
    let x = c.unwrap-field.result.now in
    let f : Field = record { name = x.name; number = x.number; shape = shape_of x.shape } in
    let here = field_there c.args.fields.now place c.get.result c.unwrap-field.result c.get.ensures c.unwrap-field.ensures in
    no_field_write c.args.form nodes c.args.text.now c.in-Some.name.now c.in-Some.rest.now place f c.requires c.in-Some.ensures.0 c.in-Some.ensures.1
    c.in-Some-place_named.ensures here (rw c.in_default-2.is at c.in_ok-value.ensures)

pub read_field-with_one-requires : goal.read_field-with_one-requires
read_field-with_one-requires t c =
    let place = c.in-Some-place_named.place in
    let here = field_there c.args.fields.now place c.get.result c.unwrap-field.result c.get.ensures c.unwrap-field.ensures in
    slice_get_within (fields (nodes_of c.args.fields.now)) place _ here

pub read_field-returns : goal.read_field-returns
read_field-returns t c =
    let nodes = nodes_of c.args.fields.now in
    let place = c.in-Some-place_named.place in
    let x = c.unwrap-field.result.now in
    let f : Field = record { name = x.name; number = x.number; shape = shape_of x.shape } in
    let here = field_there c.args.fields.now place c.get.result c.unwrap-field.result c.get.ensures c.unwrap-field.ensures in
    subst (λ (vs : values.Values). IsWrite c.args.form (shapes.Shape.Bag nodes) (values.Value.Bag vs) c.args.text.now) (sym c.in_ok-with_one.ensures)
    (field_is_written c.args.form nodes c.in-Some.name.now c.in-Some.rest.now c.args.text.now place f (plain c.in-Some-2.value) c.in-Some.ensures.0
    c.in-Some-place_named.ensures here (rw c.in-Some-2.is at c.in_ok-value.ensures))

-- ---- the shapes

pub read_write-read_entry-requires : goal.read_write-read_entry-requires
read_write-read_entry-requires t c =
    let same : c.deref.result.now ≡ c.in-Map.value.value = search rules in
    let is = ap shape_of c.in-Map.is ∙ map_shown c.in-Map.kind c.in-Map.value ∙ ap (λ (s : Shape). shapes.Shape.Map (kind_of c.in-Map.kind) (shape_of s)) (sym same) in
    (omega (arith, c.decreases, ap shape_size is), (subst IsShape is c.requires).1)

pub read_write-returns-in-None-3 : goal.read_write-returns-in-None-3
read_write-returns-in-None-3 t c = λ v p.
    (rw c.in-None-3.is at c.in_ok-set-in-Set.ensures) v
    (subst (λ (s : shapes.Shape). IsWrite c.args.form s v c.args.text.now) (ap shape_of c.in-Set.is ∙ (set_shown c.in-Set.kind).0) p)

pub read_write-returns-in-None-4 : goal.read_write-returns-in-None-4
read_write-returns-in-None-4 t c = λ v p.
    no_counter c.args.form c.args.text.now (rw c.in-None-4.is at c.in_ok-counts-in-Counter.ensures) v
    (subst (λ (s : shapes.Shape). IsWrite c.args.form s v c.args.text.now) (ap shape_of c.in-Counter.is ∙ counter_shown.0) p)

pub read_write-returns-in-None-5 : goal.read_write-returns-in-None-5
read_write-returns-in-None-5 t c = λ v p.
    let same : c.deref.result.now ≡ c.in-Map.value.value = search rules in
    let is = ap shape_of c.in-Map.is ∙ map_shown c.in-Map.kind c.in-Map.value ∙ ap (λ (s : Shape). shapes.Shape.Map (kind_of c.in-Map.kind) (shape_of s)) (sym same) in
    no_map c.args.form (kind_of c.in-Map.kind) (shape_of c.deref.result.now) c.args.text.now (rw c.in-None-5.is at c.in_ok-entries-in-Map.ensures) v
    (subst (λ (s : shapes.Shape). IsWrite c.args.form s v c.args.text.now) is p)

pub read_write-returns-in-None-6 : goal.read_write-returns-in-None-6
read_write-returns-in-None-6 t c = λ v p.
    no_bag c.args.form (nodes_of c.in-Bag.fields) c.args.text.now (rw c.in-None-6.is at c.in_ok-values-in-Bag.ensures) v
    (subst (λ (s : shapes.Shape). IsWrite c.args.form s v c.args.text.now) (ap shape_of c.in-Bag.is ∙ bag_shown c.in-Bag.fields) p)
