use Rattle.std.proofs.Common.{◌≡◌, ◌++◌, sym, ap, ◌∙◌, subst}
use Rattle.context_model.specs.Atoms.{AreAtoms}
use Rattle.bag_model.specs.Encodings.{IsEncoding, FitsAtoms}
use Rattle.bag_model.specs.Shapes as shapes
use Rattle.bag_model.specs.Values.{Values, AreOfShapes, IsOfShape}
use Rattle.field_table.specs.Plain.{nodes_of}
use Rattle.bag_value.specs.Vals.{plain}
use Rattle.bag_encode.specs.Encoding.{bag_values}
use Rattle.bag_encode.specs.Values.{field_atoms}
use Rattle.bag_encode.proofs.EncodingLaws.{IsEncoding-atoms, AreAtoms-fit}
use Rattle.bag_encode.proofs.encoding.encode.Goals as goal

pub put_fields-requires-clause-fits : goal.put_fields-requires-clause-fits
put_fields-requires-clause-fits c =
    let fits : FitsAtoms c.args.table.now c.in-Bag.values = subst (λ v. FitsAtoms c.args.table.now (bag_values (plain v))) c.in-Bag.is c.requires.fits in
    let shaped : AreOfShapes c.args.table.now c.in-Bag.values = subst (λ v. IsOfShape (shapes.Shape.Bag c.args.table.now) (plain v)) c.in-Bag.is c.requires.shape in
    subst (λ (nodes : shapes.Nodes). AreAtoms (field_atoms nodes 0 c.in-Bag.values)) (sym c.nodes.ensures.nodes)
    (AreAtoms-fit c.args.table.now c.in-Bag.values c.nodes.ensures.table shaped fits)

pub of-requires : goal.of-requires
of-requires c =
    let nodes = c.args.table.now in
    let vs = c.in-Bag.values in
    let shaped : AreOfShapes nodes vs = subst (λ v. IsOfShape (shapes.Shape.Bag nodes) (plain v)) c.in-Bag.is c.requires.shape in
    let made : c.in_ok-finish.field-0 ≡ field_atoms nodes 0 vs =
    c.in_ok-finish.ensures ∙ c.in_ok-put_fields.ensures ∙ ap (λ w. w ++ field_atoms (nodes_of c.nodes.result.now) 0 vs) c.in_ok-list.ensures ∙ ap (λ n. field_atoms n 0 vs) c.nodes.ensures.nodes
    in
    let encoded : IsEncoding nodes vs c.in_ok-finish.field-0 = subst (IsEncoding nodes vs) (sym made) (IsEncoding-atoms nodes vs c.nodes.ensures.table shaped) in
    encoded.well_formed

pub returns : goal.returns
returns c =
    let nodes = c.args.table.now in
    let vs = c.in-Bag.values in
    let shaped : AreOfShapes nodes vs = subst (λ v. IsOfShape (shapes.Shape.Bag nodes) (plain v)) c.in-Bag.is c.requires.shape in
    let made : c.of.result ≡ field_atoms nodes 0 vs =
    c.of.ensures ∙ c.in_ok-finish.ensures ∙ c.in_ok-put_fields.ensures ∙ ap (λ w. w ++ field_atoms (nodes_of c.nodes.result.now) 0 vs) c.in_ok-list.ensures ∙ ap (λ n. field_atoms n 0 vs) c.nodes.ensures.nodes
    in
    let encoded : IsEncoding nodes vs c.of.result = subst (IsEncoding nodes vs) (sym made) (IsEncoding-atoms nodes vs c.nodes.ensures.table shaped) in
    subst (λ (ws : Values). IsEncoding nodes ws c.of.result) (sym (ap (λ v. bag_values (plain v)) c.in-Bag.is)) encoded
