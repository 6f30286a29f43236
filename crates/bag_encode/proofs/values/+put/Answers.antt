use Rattle.std.proofs.Common.{◌≡◌, ◌+◌, ◌<◌, ◌≤◌, ◌++◌, [], ◌∷◌, length, map, drop, Some, refl, sym, ap, ◌∙◌, subst, append-nil, append_assoc, arith}
use Rattle.std.specs.List.{slice_get}
use Rattle.std.specs.Option.{option_map}
use Rattle.std.proofs.lemmas.Result.{on_ok_weaker}
use Rattle.context_model.specs.Atoms.{AreAtoms}
use Rattle.context_model.specs.Kinds.{atom_of}
use Rattle.context_model.specs.Kinds.Kind.{Indexed}
use Rattle.context_model.specs.KeyedMerge.{EachPair}
use Rattle.bag_model.specs.Joins.{IsBottom}
use Rattle.bag_model.specs.Shapes as shapes
use Rattle.bag_model.specs.Shapes.{Field, fields}
use Rattle.bag_model.specs.Sizes.{shape_size}
use Rattle.bag_model.specs.Tables.{levels_under}
use Rattle.bag_model.specs.Values as values
use Rattle.bag_model.specs.Values.{IsOfShape}
use Rattle.bag_model.proofs.OfShape.{IsEntryOf}
use Rattle.scalar_types.specs.KindViews.{kind_of}
use Rattle.field_table.specs.Plain.{field_of, nodes_of, shape_of}
use Rattle.bag_model.proofs.SizeLaws.{size_at}
use Rattle.field_table.proofs.Held.{field_is, levels_there}
use Rattle.field_table.proofs.Shown.{map_shown}
use Rattle.bag_value.specs.Vals.{plain, pair_of}
use Rattle.bag_encode.specs.Values.{atoms_of, field_atoms, one_field_atoms, key_header}
use Rattle.bag_encode.proofs.EntrySteps.{entry_is, entry_turn, entries_atoms}
use Rattle.bag_encode.proofs.FieldSteps.{bottom_atoms, said_atoms, value_for, some_there, field_turn, shapes_turn, AreAtoms-front, nodes_from_place, values_from_place, nodes_end}
use Rattle.bag_encode.proofs.Steps.{IsOnWay, IsOnWay-more}
use Rattle.bag_encode.proofs.values.+put.Goals as goal

pub put_field-returns-then-is_bottom : goal.put_field-returns-then-is_bottom
put_field-returns-then-is_bottom t c =
    sym (append-nil c.args.list.now) ∙ ap (λ l. c.args.list.now ++ l) (sym (bottom_atoms (field_of c.args.field.now) c.args.level (plain c.args.value.now) (c.if-is_bottom.ensures.value.0 refl)))

pub put_field-returns : goal.put_field-returns
put_field-returns t c =
    let x = c.args.field.now in
    let level = c.args.level in
    let v = plain c.args.value.now in
    let some : IsBottom v → ⊥ = λ b. (let clash = c.if-is_bottom.ensures.value.1 b in cc) in
    let said = said_atoms (field_of x) level v c.requires.shape some in
    let header = atom_of (Indexed level c.from.result) in
    let under = atoms_of (shape_of x.shape) (level + 1) v in
    let is : one_field_atoms (field_of x) level v ≡ header ∷ under =
    said ∙ ap (λ (f : Field). atom_of (Indexed level f.number) ∷ atoms_of f.shape (level + 1) v) (field_is x) ∙ ap (λ n. atom_of (Indexed level n) ∷ under) (sym c.from.ensures)
    in
    on_ok_weaker c.put_value.result
    (λ e. e ∙ ap (λ l. l ++ under) c.in_ok-push_index.ensures ∙ append_assoc c.args.list.now (header ∷ []) under ∙ ap (λ l. c.args.list.now ++ l) (sym is))
    c.put_value.ensures

pub put_value-put_entries-requires : goal.put_value-put_entries-requires
put_value-put_entries-requires t c =
    let kind = kind_of c.in-Map-Map.kind in
    let inner = shape_of c.deref.result.now in
    let v = plain c.args.value.now in
    let is : shape_of c.args.shape.now ≡ shapes.Shape.Map kind inner =
    ap shape_of c.in-Map-Map.is-0 ∙ map_shown c.in-Map-Map.kind c.in-Map-Map.shape ∙ ap (λ s. shapes.Shape.Map kind (shape_of s)) (sym c.deref.ensures)
    in
    let map_is : v ≡ values.Value.Map c.in-Map-Map.entries = ap plain c.in-Map-Map.is-1 in
    let shaped : IsOfShape (shapes.Shape.Map kind inner) v = subst (λ (s : shapes.Shape). IsOfShape s v) is c.requires.shape in
    let short : AreAtoms (atoms_of (shapes.Shape.Map kind inner) c.args.level v) = subst (λ (s : shapes.Shape). AreAtoms (atoms_of s c.args.level v)) is c.requires.fits in (
      omega (arith, ap shape_size is),
      (
        subst (λ (w : values.Value). IsOfShape (shapes.Shape.Map kind inner) w) map_is shaped,
        (omega (arith, c.requires.levels, ap levels_under is), subst (λ (w : values.Value). AreAtoms (atoms_of (shapes.Shape.Map kind inner) c.args.level w)) map_is short),
      ),
    )

pub put_entries-push_key-requires-clause-fits : goal.put_entries-push_key-requires-clause-fits
put_entries-push_key-requires-clause-fits t c =
    let kind = kind_of c.args.kind.now in
    let shape = shape_of c.args.shape.now in
    let es = c.as_slice-entry-items.result.now in
    (entry_is kind shape c.args.level es c.loop-entry.entry-index c.entry-item.result c.loop-entry-test.true c.entry-item.is
    (subst (EachPair (IsEntryOf kind shape)) (sym c.as_slice-entry-items.ensures) c.requires.shape.1)).0

pub put_entries-push_key-requires-clause-short : goal.put_entries-push_key-requires-clause-short
put_entries-push_key-requires-clause-short t c =
    let es = c.as_slice-entry-items.result.now in
    let now = subst AreAtoms (entry_turn (kind_of c.args.kind.now) (shape_of c.args.shape.now) c.args.level es c.loop-entry.entry-index c.entry-item.result c.loop-entry-test.true c.entry-item.is) c.loop-entry.invariant.short in
    omega (arith, now.0)

pub put_fields-unwrap-requires-in-loop-at : goal.put_fields-unwrap-requires-in-loop-at
put_fields-unwrap-requires-in-loop-at t c =
    let within : c.loop-at.at < length (fields (nodes_of c.args.fields.now)) = omega (arith, c.len-at-end.ensures) in
    some_there (λ found. plain found.now) c.get-in-loop-at.result (values.values_list c.args.values.now) c.loop-at.at c.get-in-loop-at.ensures (value_for (nodes_of c.args.fields.now) c.args.values.now c.loop-at.at c.requires.shapes within)

pub put_entries-put_value-requires : goal.put_entries-put_value-requires
put_entries-put_value-requires t c =
    let kind = kind_of c.args.kind.now in
    let shape = shape_of c.args.shape.now in
    let es = c.as_slice-entry-items.result.now in
    let i = c.loop-entry.entry-index in
    let e = c.entry-item.result in
    let now = subst AreAtoms (entry_turn kind shape c.args.level es i e c.loop-entry-test.true c.entry-item.is) c.loop-entry.invariant.short in (
      omega arith,
      (
        (entry_is kind shape c.args.level es i e c.loop-entry-test.true c.entry-item.is (subst (EachPair (IsEntryOf kind shape)) (sym c.as_slice-entry-items.ensures) c.requires.shape.1)).1,
        (c.requires.levels, AreAtoms-front (atoms_of shape (c.args.level + 1) (plain e.value)) (entries_atoms kind shape c.args.level (map pair_of (drop (i + 1) es))) now.1),
      ),
    )

pub put_entries-loop-entry-preserved : goal.put_entries-loop-entry-preserved
put_entries-loop-entry-preserved t c =
    let kind = kind_of c.args.kind.now in
    let shape = shape_of c.args.shape.now in
    let level = c.args.level in
    let es = c.as_slice-entry-items.result.now in
    let i = c.loop-entry.entry-index in
    let e = c.entry-item.result in
    let whole = c.args.list.now ++ entries_atoms kind shape level (values.pairs c.args.entries.now) in
    let key = key_header level kind (pair_of e) in
    let under = atoms_of shape (level + 1) (plain e.value) in
    IsOnWay-more whole c.loop-entry.list c.put_value.new.list (key ∷ under) (entries_atoms kind shape level (map pair_of (drop (i + 1) es)))
    (c.in_ok-put_value.ensures ∙ ap (λ l. l ++ under) c.in_ok-push_key.ensures ∙ append_assoc c.loop-entry.list (key ∷ []) under)
    (subst (IsOnWay whole c.loop-entry.list) (entry_turn kind shape level es i e c.loop-entry-test.true c.entry-item.is) c.loop-entry.invariant)

pub put_fields-put_field-requires : goal.put_fields-put_field-requires
put_fields-put_field-requires t c =
    let nodes = nodes_of c.args.fields.now in
    let vs = c.args.values.now in
    let at = c.loop-at.at in
    let f = field_of c.unwrap.result.now in
    let v = plain c.unwrap-in-loop-at.result.now in
    let field_at : slice_get (fields nodes) at ≡ Some f = sym c.get.ensures ∙ ap (option_map (λ found. field_of found.now)) c.unwrap.ensures in
    let value_at : slice_get (values.values_list vs) at ≡ Some v = sym c.get-in-loop-at.ensures ∙ ap (option_map (λ found. plain found.now)) c.unwrap-in-loop-at.ensures in
    let now = subst AreAtoms (field_turn nodes vs c.args.level at f v field_at value_at) c.loop-at.invariant.written.short in (
      omega (arith, size_at nodes at f field_at),
      (
        (shapes_turn nodes vs c.args.level at f v field_at value_at c.loop-at.invariant.shapes).0,
        (
          omega (arith, c.requires.levels, levels_there nodes at f field_at),
          AreAtoms-front (one_field_atoms f c.args.level v) (field_atoms (nodes_from_place (at + 1) nodes) c.args.level (values_from_place (at + 1) vs)) now,
        ),
      ),
    )

pub put_fields-loop-at-preserved : goal.put_fields-loop-at-preserved
put_fields-loop-at-preserved t c =
    let nodes = nodes_of c.args.fields.now in
    let vs = c.args.values.now in
    let at = c.loop-at.at in
    let f = field_of c.unwrap.result.now in
    let v = plain c.unwrap-in-loop-at.result.now in
    let field_at : slice_get (fields nodes) at ≡ Some f = sym c.get.ensures ∙ ap (option_map (λ found. field_of found.now)) c.unwrap.ensures in
    let value_at : slice_get (values.values_list vs) at ≡ Some v = sym c.get-in-loop-at.ensures ∙ ap (option_map (λ found. plain found.now)) c.unwrap-in-loop-at.ensures in
    let whole = c.args.list.now ++ field_atoms nodes c.args.level vs in
    record {
      shapes = (shapes_turn nodes vs c.args.level at f v field_at value_at c.loop-at.invariant.shapes).1;
      written = IsOnWay-more whole c.loop-at.list c.put_field.new.list (one_field_atoms f c.args.level v) (field_atoms (nodes_from_place (at + 1) nodes) c.args.level (values_from_place (at + 1) vs))
          c.in_ok-put_field.ensures
          (subst (IsOnWay whole c.loop-at.list) (field_turn nodes vs c.args.level at f v field_at value_at) c.loop-at.invariant.written);
    }

pub put_fields-returns : goal.put_fields-returns
put_fields-returns t c =
    let nodes = nodes_of c.args.fields.now in
    let vs = c.args.values.now in
    let at = c.loop-at.at in
    let over : length (fields nodes) ≤ at = omega (arith, c.len-at-end.ensures) in
    sym (append-nil c.loop-at.list) ∙ ap (λ n. c.loop-at.list ++ field_atoms n c.args.level (values_from_place at vs)) (sym (nodes_end nodes at over)) ∙ c.loop-at.invariant.written.so_far
