use Rattle.std.proofs.Common.{sym, subst, ap, ◌∙◌, arith}
use Rattle.std.specs.Option.{option_map}
use Rattle.bag_model.specs.Shapes as model
use Rattle.field_table.specs.declared.shapes.Shape.{Shape}
use Rattle.field_table.specs.Plain.{shape_of}
use Rattle.field_table.proofs.Shown.{map_shown}
use Rattle.scalar_types.specs.declared.kinds.ScalarKind.TheVariants.{One}
use Rattle.scalar_types.specs.KindViews.{kind_of}
use Rattle.table_text.specs.Shapes.{IsMapBehind}
use Rattle.table_text.proofs.ShapeTexts.{none_named, read_text, no_shape, no_kind, map_read, bare_answers, map_no_key, map_no_value, map_some}
use Rattle.table_text.proofs.shapes.+shape.Goals as goal

pub read_map-returns-in_default-of_bytes-clause-shape : goal.read_map-returns-in_default-of_bytes-clause-shape
read_map-returns-in_default-of_bytes-clause-shape t c =
    map_no_key c.args.maps c.args.text.now c.in-Some.word.now c.in-Some.rest.now c.in-Some.ensures.0 c.in-Some.ensures.1
    (none_named c.in-Some.word.now c.of_bytes.result c.in_default-of_bytes.is c.of_bytes.ensures)

pub read_map-returns-in-None-clause-shape : goal.read_map-returns-in-None-clause-shape
read_map-returns-in-None-clause-shape t c =
    map_no_value c.args.maps c.args.text.now c.in-Some.word.now c.in-Some.rest.now c.in-Some.ensures.0 c.in-Some.ensures.1 (rw c.in-None.is at c.in_ok-value.ensures.shape)

pub read_map-returns-in_ok-new-in-Some-2-clause-shape : goal.read_map-returns-in_ok-new-in-Some-2-clause-shape
read_map-returns-in_ok-new-in-Some-2-clause-shape t c =
    let key = c.in-Some-of_bytes.key in
    let value = c.in-Some-2.value in
    let shown = map_shown (One key) c.in_ok-new-in-Some-2.field-0 ∙ ap (λ (v : Shape). model.Shape.Map (kind_of (One key)) (shape_of v)) c.in_ok-new-in-Some-2.ensures.ok in
    subst (IsMapBehind c.args.maps c.args.text.now) (sym shown)
    (map_some c.args.maps c.args.text.now c.in-Some.word.now c.in-Some.rest.now c.in-Some.ensures.1 key (shape_of value) (omega (arith, c.if-maps-eq0.false))
    (read_text c.in-Some.word.now key c.in-Some-of_bytes.ensures) (rw c.in-Some-2.is at c.in_ok-value.ensures.shape))

pub read_shape-returns-in_default-clause-shape : goal.read_shape-returns-in_default-clause-shape
read_shape-returns-in_default-clause-shape t c =
    bare_answers c.args.maps c.args.text.now c.in_default.ensures (option_map shape_of c.read_bare.result) c.read_bare.ensures.shape

pub read_shape-returns-then-is-clause-shape : goal.read_shape-returns-then-is-clause-shape
read_shape-returns-then-is-clause-shape t c =
    map_read c.args.maps c.args.text.now c.in-Some.word.now c.in-Some.rest.now c.in-Some.ensures.0 c.in-Some.ensures.1 (sym c.is.ensures ∙ c.if-is.true)
    shape_of c.read_map.result c.read_map.ensures.shape

pub read_shape-returns-in_default-2-clause-shape : goal.read_shape-returns-in_default-2-clause-shape
read_shape-returns-in_default-2-clause-shape t c =
    no_kind c.args.maps c.args.text.now c.in-Some.word.now c.in-Some.rest.now c.in-Some.ensures.0 c.in-Some.ensures.1 (sym c.is.ensures ∙ c.if-is.false)
    (rw c.in_default-2.is at c.in_ok-kind.ensures)

pub read_shape-returns-else-is-4-clause-shape : goal.read_shape-returns-else-is-4-clause-shape
read_shape-returns-else-is-4-clause-shape t c =
    no_shape c.args.maps c.args.text.now c.in-Some.word.now c.in-Some.rest.now c.in-Some.ensures.0 c.in-Some.ensures.1
    (sym c.is.ensures ∙ c.if-is.false) (sym c.is-2.ensures ∙ c.if-is-2.false) (sym c.is-else-is-2.ensures ∙ c.if-is-3.false) (sym c.is-else-is-3.ensures ∙ c.if-is-4.false)
