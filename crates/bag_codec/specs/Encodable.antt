-- What can be encoded, by the parts of a value.
use Rattle.std.specs.Prelude.{◌≡◌, ℕ, ◌<◌, List, length, None, Some}
use Rattle.std.specs.List.{AllByRecursion}
use Rattle.context_model.specs.declared.TheConstants.{ATOM_MAX}
use Rattle.context_model.specs.KeyedMerge.{EachPair}
use Rattle.bag_model.specs.Scalars.{ScalarKind, ScalarValue, IsScalarOf, spelling}
use Rattle.bag_model.specs.Shapes as shapes
use Rattle.bag_model.specs.Shapes.{Shape, Nodes, no_node, node}
use Rattle.bag_model.specs.Values.{Value, Values, Taint, Scalar, Set, Counter, Map, Bag, no_value, value, pairs}

-- There is room in an atom for these bytes after its first one.
abbrev pub HasRoom : List ℕ → Type 0
HasRoom bytes = length bytes < ATOM_MAX

-- A scalar of the kind, with a spelling for which there is room in an atom.
abbrev pub FitsAtom : ScalarKind → ScalarValue → Type 0
FitsAtom kind v = IsScalarOf kind v × HasRoom (spelling kind v)

-- The value has the variants and the scalars that the shape asks for, its scalars are those of
-- which the same one stays, and its sets name the kinds of their fields; there is room in an atom
-- for each scalar and for each writer. Order and the counts' size are left out.
abbrev mutual
  pub IsEncodable : Shape → Value → Type 0
  IsEncodable shapes.Taint (Taint on) = Unit {0}
  IsEncodable shapes.Taint other = ⊥
  IsEncodable (shapes.Scalar pick kind) (Scalar own None) = own ≡ pick
  IsEncodable (shapes.Scalar pick kind) (Scalar own (Some v)) = (own ≡ pick) × FitsAtom kind v
  IsEncodable (shapes.Scalar pick kind) other = ⊥
  IsEncodable (shapes.Set kind) (Set own vs) = (own ≡ kind) × AllByRecursion (FitsAtom kind) vs
  IsEncodable (shapes.Set kind) other = ⊥
  IsEncodable shapes.Counter (Counter counts) = EachPair (λ writer n. HasRoom writer) counts
  IsEncodable shapes.Counter other = ⊥
  IsEncodable (shapes.Map kind shape) (Map es) =
      EachPair (λ key v. FitsAtom kind key × IsEncodable shape v) (pairs es)
  IsEncodable (shapes.Map kind shape) other = ⊥
  IsEncodable (shapes.Bag nodes) (Bag vs) = AreEncodable nodes vs
  IsEncodable (shapes.Bag nodes) other = ⊥

  -- There is a value for each field of a bag, and each can be encoded as its field's shape says.
  pub AreEncodable : Nodes → Values → Type 0
  AreEncodable no_node no_value = Unit {0}
  AreEncodable no_node (value v vs) = ⊥
  AreEncodable (node name number shape nodes) no_value = ⊥
  AreEncodable (node name number shape nodes) (value v vs) =
      IsEncodable shape v × AreEncodable nodes vs
