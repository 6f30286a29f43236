use Rattle.std.proofs.Common.{[], sym, ap, subst}
use Rattle.bag_encode.specs.Encoding.{bag_values}
use Rattle.bag_model.specs.Encodings.{FitsAtoms}
use Rattle.bag_model.specs.Joins.{Proper}
use Rattle.bag_model.specs.Shapes as shapes
use Rattle.bag_model.specs.Shapes.{Nodes}
use Rattle.bag_model.specs.Values.{Value, IsOfShape}
use Rattle.bag_value.specs.Vals.{plain}
use Rattle.bag_codec.specs.Encodable.{AreEncodable}
use Rattle.bag_codec.proofs.Layouts.{each_by_parts, layouts_fit, of_shapes}
use Rattle.bag_codec.proofs.encodable.can_encode.Goals as goal

pub returns-in-Bag : goal.returns-in-Bag
returns-in-Bag c =
    let nodes = c.args.table.now in
    let vs = c.in-Bag.values in
    let is = ap plain c.in-Bag.is in (
      λ t.
          let proper = subst Proper is c.is_bottom.ensures.known in
          let each = subst (λ (n : Nodes). AreEncodable n vs) c.nodes.ensures.nodes (c.fields_fit.ensures.0 t) in
          subst (λ (v : Value). IsOfShape (shapes.Shape.Bag nodes) v × FitsAtoms nodes (bag_values v)) (sym is)
          (of_shapes nodes vs proper each, layouts_fit nodes [] vs each),
      λ (o, f).
          let shaped = subst (IsOfShape (shapes.Shape.Bag nodes)) is o in
          let fits = subst (λ (v : Value). FitsAtoms nodes (bag_values v)) is f in
          c.fields_fit.ensures.1 (subst (λ (n : Nodes). AreEncodable n vs) (sym c.nodes.ensures.nodes) (each_by_parts nodes [] vs shaped fits)),
    )
