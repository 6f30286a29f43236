use Rattle.std.proofs.Common.{◌≡◌, ◌<◌, Some, length, rules, sym, ap, ◌∙◌, arith}
use Rattle.std.specs.List.{slice_get}
use Rattle.std.specs.Option.{option_map}
use Rattle.bag_model.specs.Shapes.{fields}
use Rattle.bag_model.specs.Values.{values_list}
use Rattle.bag_value.specs.Vals.{plain}
use Rattle.field_table.specs.Plain.{nodes_of}
use Rattle.bag_scan.proofs.FieldGets.{field_at, field_smaller, field_there, opened}
use Rattle.bag_codec.proofs.Parts.{both_ways, each_at, each_length, each_turn, each_whole, some_there}
use Rattle.bag_codec.proofs.encodable.+encodable.Goals as goal

pub fields_fit-returns-then-len : goal.fields_fit-returns-then-len
fields_fit-returns-then-len t c = (
  λ t. absurd (cc),
  λ each.
      let nodes = nodes_of c.args.fields.now in
      let same = each_length (fields nodes) (values_list c.args.values.now) ((each_whole nodes c.args.values.now).0 each) in
      absurd (c.if-len.true (c.len.ensures ∙ same ∙ sym c.len-2.ensures)),
)

pub fields_fit-loop-at-init : goal.fields_fit-loop-at-init
fields_fit-loop-at-init t c = each_whole (nodes_of c.args.fields.now) c.args.values.now

pub fields_fit-unwrap-field-requires : goal.fields_fit-unwrap-field-requires
fields_fit-unwrap-field-requires t c =
    let within : c.loop-at.at < length (fields (nodes_of c.args.fields.now)) = omega (arith, c.len-at-end.ensures, c.loop-at-test.true) in
    field_there c.args.fields.now c.loop-at.at c.get.result c.get.ensures within

pub fields_fit-unwrap-requires : goal.fields_fit-unwrap-requires
fields_fit-unwrap-requires t c =
    let within : c.loop-at.at < length (values_list c.args.values.now) = omega (arith, c.len-at-end.ensures, c.loop-at-test.true, c.if-len.false, c.len.ensures, c.len-2.ensures) in
    some_there (λ found. plain found.now) c.get-in-loop-at.result (values_list c.args.values.now) c.loop-at.at c.get-in-loop-at.ensures within

pub fields_fit-is_encodable-requires : goal.fields_fit-is_encodable-requires
fields_fit-is_encodable-requires t c =
    (omega (arith, c.decreases, field_smaller c.args.fields.now c.loop-at.at c.get.result c.unwrap-field.result c.get.ensures c.unwrap-field.ensures), tt)

pub fields_fit-returns-then-not-is_encodable : goal.fields_fit-returns-then-not-is_encodable
fields_fit-returns-then-not-is_encodable t c =
    let nodes = nodes_of c.args.fields.now in
    let vs = values_list c.args.values.now in
    let here = field_at c.args.fields.now c.loop-at.at c.get.result c.unwrap-field.result c.get.ensures c.unwrap-field.ensures in
    let there : slice_get vs c.loop-at.at ≡ Some (plain c.unwrap.result.now) = sym c.get-in-loop-at.ensures ∙ ap (option_map (λ found. plain found.now)) c.unwrap.ensures in (
      λ t. absurd (cc),
      λ each. c.if-not-is_encodable.ensures.1
          (each_at (fields nodes) vs c.loop-at.at (opened c.unwrap-field.result.now) (plain c.unwrap.result.now) here there (c.loop-at.invariant.0 each)),
    )

pub fields_fit-loop-at-preserved : goal.fields_fit-loop-at-preserved
fields_fit-loop-at-preserved t c =
    let nodes = nodes_of c.args.fields.now in
    let vs = values_list c.args.values.now in
    let here = field_at c.args.fields.now c.loop-at.at c.get.result c.unwrap-field.result c.get.ensures c.unwrap-field.ensures in
    let there : slice_get vs c.loop-at.at ≡ Some (plain c.unwrap.result.now) = sym c.get-in-loop-at.ensures ∙ ap (option_map (λ found. plain found.now)) c.unwrap.ensures in
    both_ways c.loop-at.invariant
    (each_turn (fields nodes) vs c.loop-at.at (opened c.unwrap-field.result.now) (plain c.unwrap.result.now) here there (c.if-not-is_encodable.ensures.0 (search rules)))
