-- The list of a table's values is their encoding.
use Rattle.std.proofs.Common.{◌↔◌, List, [], sym, subst, arith}
use Rattle.context_model.specs.Atoms.{AreAtoms}
use Rattle.context_model.specs.Orders.{Path, IsIn}
use Rattle.bag_model.specs.Encodings.{InLayouts, IsEncoding, FitsAtoms}
use Rattle.bag_model.specs.Shapes.{Nodes}
use Rattle.bag_model.specs.Tables.{IsTable}
use Rattle.bag_model.specs.Values.{Values, AreOfShapes}
use Rattle.bag_encode.specs.Values.{field_trees, field_atoms}
use Rattle.bag_encode.proofs.TreeLaws.{AreTrees, IsWellFormed-trees, paths-trees, AreAtoms-trees}
use Rattle.bag_encode.proofs.LaidOut.{paths-laid_fields, AreTrees-laid_fields}

module _ (nodes : Nodes) (vs : Values) (table : IsTable nodes) (shapes : AreOfShapes nodes vs) where
  stand : AreTrees 0 (field_trees nodes 0 vs)
  stand = AreTrees-laid_fields nodes 0 vs table.well_formed shapes (omega (arith, table.shallow))

  -- The atoms of the fields, from level 0 on, are the encoding of the values.
  pub IsEncoding-atoms : IsEncoding nodes vs (field_atoms nodes 0 vs)
  IsEncoding-atoms = record {
    well_formed = IsWellFormed-trees (field_trees nodes 0 vs) stand;
    exact = λ p. subst (λ (ps : List Path). IsIn p ps ↔ InLayouts nodes [] vs p) (sym (paths-trees (field_trees nodes 0 vs) stand)) (paths-laid_fields nodes [] vs shapes p);
  }

  -- They are within the limit where those of the layout are.
  pub AreAtoms-fit : FitsAtoms nodes vs → AreAtoms (field_atoms nodes 0 vs)
  AreAtoms-fit fits = AreAtoms-trees (field_trees nodes 0 vs) [] (λ p i. fits p ((paths-laid_fields nodes [] vs shapes p).0 i))
