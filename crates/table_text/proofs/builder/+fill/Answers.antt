use Rattle.std.proofs.Common.{sym, ◌∙◌, ap, subst}
use Rattle.bag_model.specs.Shapes as model
use Rattle.field_table.specs.declared.shapes.Shape.{Shape}
use Rattle.scalar_types.specs.KindViews.{kind_of}
use Rattle.field_table.specs.Tables.{IsLoose}
use Rattle.field_table.specs.Plain.{shape_of, nodes_of, kept_shape}
use Rattle.field_table.proofs.Shown.{kept_map, map_shown}
use Rattle.table_text.specs.TableRows.{filled}
use Rattle.table_text.proofs.builder.+fill.Goals as goal

pub returns-in-Map-clause-filled : goal.returns-in-Map-clause-filled
returns-in-Map-clause-filled t c =
    let nodes = nodes_of c.args.fields in
    map_shown c.in-Map.field-0 _
    ∙ (ap (model.Shape.Map (kind_of c.in-Map.field-0)) (c.fill.ensures.filled ∙ ap (λ (s : Shape). filled nodes (shape_of s)) c.deref_mut.ensures.value)
    ∙ (sym (ap (filled nodes) (map_shown c.in-Map.field-0 c.in-Map.value)) ∙ ap (λ (s : Shape). filled nodes (shape_of s)) (sym c.in-Map.is)))

pub returns-in-Map-clause-indexed : goal.returns-in-Map-clause-indexed
returns-in-Map-clause-indexed t c indexed loose =
    let inside : IsLoose (kept_shape c.in-Map.value.value) = subst IsLoose (ap kept_shape c.in-Map.is ∙ kept_map c.in-Map.field-0 c.in-Map.value) loose in
    subst IsLoose (sym (kept_map c.in-Map.field-0 _)) (c.fill.ensures.indexed indexed (subst IsLoose (ap kept_shape (sym c.deref_mut.ensures.value)) inside))
