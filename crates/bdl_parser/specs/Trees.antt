-- What the types and the fields of a definition say.
use Rattle.std.specs.Prelude.{ℕ, List}
use Rattle.bag_model.specs.Scalars.{Word}
use Rattle.bdl_parser.specs.declared.trees.Holding.{Holding}
use Rattle.bdl_parser.specs.declared.trees.Spot.{Spot}

-- A type of one word.
pub data Leaf : Type 0 where
  scalar : Word → Leaf
  float : Leaf
  double : Leaf
  taint : Leaf
  counter : Leaf
  name : List ℕ → Leaf

-- A type, with the place of its first token: of one word, one that holds elements, or a map from
-- keys to values.
pub data TypeTree : Type 0 where
  leaf : Leaf → Spot → TypeTree
  held : Holding → TypeTree → Spot → TypeTree
  map : TypeTree → TypeTree → Spot → TypeTree

-- A field of a bag.
pub record BagFieldTree : Type 0 where
  pub kind : TypeTree
  pub name : List ℕ
  pub name_at : Spot
  pub number : ℕ
  pub number_at : Spot

-- A field of a struct.
pub record StructFieldTree : Type 0 where
  pub kind : TypeTree
  pub name : List ℕ
  pub name_at : Spot
