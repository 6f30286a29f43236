use Rattle.std.proofs.Common.{sym, ◌∙◌, ap, subst}
use Rattle.bag_model.specs.Shapes as model
use Rattle.scalar_types.specs.KindViews.{kind_of}
use Rattle.field_table.specs.Tables.{IsKept, IsLoose}
use Rattle.field_table.specs.Plain.{shape_of, kept_shape}
use Rattle.field_table.proofs.Shown.{kept_map, map_shown}
use Rattle.field_table.proofs.shapes.Shape.+sort_bag_index.Goals as goal

pub returns-in-Map-clause-same : goal.returns-in-Map-clause-same
returns-in-Map-clause-same t c =
    map_shown c.in-Map.field-0 _
    ∙ (ap (model.Shape.Map (kind_of c.in-Map.field-0)) (c.sort_bag_index.ensures.same ∙ ap shape_of c.deref_mut.ensures.value) ∙ (sym (map_shown c.in-Map.field-0 c.in-Map.value) ∙ ap shape_of (sym c.in-Map.is)))

pub returns-in-Map-clause-kept : goal.returns-in-Map-clause-kept
returns-in-Map-clause-kept t c loose =
    let inside : IsLoose (kept_shape c.in-Map.value.value) = subst IsLoose (ap kept_shape c.in-Map.is ∙ kept_map c.in-Map.field-0 c.in-Map.value) loose in
    subst IsKept (sym (kept_map c.in-Map.field-0 _)) (c.sort_bag_index.ensures.kept (subst IsLoose (ap kept_shape (sym c.deref_mut.ensures.value)) inside))
