-- The layout of values as paths, and which paths the fields of a bag name.
use Rattle.std.specs.Prelude.{◌≡◌, ◌≢◌, ◌⊎◌, ℕ, ◌≤◌, IsTrue, List, [], length, Some, None}
use Rattle.context_model.specs.declared.TheConstants.{ATOM_MAX}
use Rattle.context_model.specs.Atoms.{Atom}
use Rattle.context_model.specs.Orders.{Path, IsIn}
use Rattle.context_model.specs.Merged.{HasPaths, last_atom}
use Rattle.context_model.specs.KeyedMerge.{IsAt}
use Rattle.context_model.specs.Varints.{unsigned_varint}
use Rattle.bag_model.specs.Scalars.{ScalarValue, spelling}
use Rattle.bag_model.specs.Shapes.{Shape, Nodes, Taint, Scalar, Set, Counter, Map, Bag, no_node, node}
use Rattle.bag_model.specs.Values.{Value, Values, Taint, Scalar, Set, Counter, Map, Bag, no_value, value, pairs, AreOfShapes}
use Rattle.bag_model.specs.Joins.{IsBottom}
use Rattle.bag_model.specs.Readings.{datum_path, key_path, node_path, PathsOf, SaysValues}
use Rattle.bag_model.specs.Tables.{IsTable}
use Rattle.bag_model.specs.Typed.{AreTyped}

-- p is a path of the layout of a value of this shape at q: a datum where a taint is on, one of a
-- scalar that is there, one of each scalar of a set; for each writer its key and its count; for
-- each key of a map the key, and the layout of its value.
abbrev mutual
  pub InLayout : Shape → Path → Value → Path → Type 0
  InLayout Taint q (Taint on) p = IsTrue on × (p ≡ datum_path q [])
  InLayout Taint q other p = ⊥
  InLayout (Scalar pick kind) q (Scalar own None) p = ⊥
  InLayout (Scalar pick kind) q (Scalar own (Some v)) p = p ≡ datum_path q (spelling kind v)
  InLayout (Scalar pick kind) q other p = ⊥
  InLayout (Set kind) q (Set own vs) p =
      (v : ScalarValue) × IsIn v vs × (p ≡ datum_path q (spelling kind v))
  InLayout (Set kind) q other p = ⊥
  InLayout Counter q (Counter counts) p =
      (writer : List ℕ) × (n : ℕ) × IsAt writer n counts
      × ((p ≡ key_path q writer) ⊎ (p ≡ datum_path (key_path q writer) (unsigned_varint n)))
  InLayout Counter q other p = ⊥
  InLayout (Map kind shape) q (Map es) p =
      (key : ScalarValue) × (v : Value) × IsAt key v (pairs es)
      × ((p ≡ key_path q (spelling kind key)) ⊎ InLayout shape (key_path q (spelling kind key)) v p)
  InLayout (Map kind shape) q other p = ⊥
  InLayout (Bag nodes) q (Bag vs) p = InLayouts nodes q vs p
  InLayout (Bag nodes) q other p = ⊥

  -- Of a bag's fields: a field that is bottom has no header, and nothing under it.
  pub InLayouts : Nodes → Path → Values → Path → Type 0
  InLayouts no_node q vs p = ⊥
  InLayouts (node name number shape nodes) q no_value p = ⊥
  InLayouts (node name number shape nodes) q (value v vs) p =
      (¬ (IsBottom v) × ((p ≡ node_path q number) ⊎ InLayout shape (node_path q number) v p))
      ⊎ InLayouts nodes q vs p

-- The list is well formed and has exactly the paths of the layout.
abbrev pub IsEncoding : Nodes → Values → List Atom → Type 0
IsEncoding nodes vs list = HasPaths list (InLayouts nodes [] vs)

-- Each atom of the layout is within the limit of bytes.
abbrev pub FitsAtoms : Nodes → Values → Type 0
FitsAtoms nodes vs = (p : Path) → InLayouts nodes [] vs p → length (last_atom p) ≤ ATOM_MAX

-- Values that fit a table, and an encoding of them.
pub record IsEncodingOf (nodes : Nodes) (vs : Values) (list : List Atom) : Type 0 where
  pub table : IsTable nodes
  pub shapes : AreOfShapes nodes vs
  pub encoding : IsEncoding nodes vs list

-- An encoding of values of a table is typed and says these values, and values have one encoding.
pub record EncodingsReadBack : Type 0 where
  pub typed : (nodes : Nodes) (vs : Values) (list : List Atom)
      → IsEncodingOf nodes vs list → AreTyped nodes (PathsOf list) []
  pub reads : (nodes : Nodes) (vs : Values) (list : List Atom)
      → IsEncodingOf nodes vs list → SaysValues nodes list vs
  pub one : (nodes : Nodes) (vs : Values) (a b : List Atom)
      → IsEncoding nodes vs a → IsEncoding nodes vs b → a ≡ b

-- ---- what a table names

-- p is a path that a field of this shape at q names: a datum that may be read there, a key of a
-- counter or a map, or the header of a field.
abbrev mutual
  pub IsUsed : Shape → Path → Path → Type 0
  IsUsed Taint q p = (payload : List ℕ) × (p ≡ datum_path q payload)
  IsUsed (Scalar pick kind) q p = (payload : List ℕ) × (p ≡ datum_path q payload)
  IsUsed (Set kind) q p = (payload : List ℕ) × (p ≡ datum_path q payload)
  IsUsed Counter q p =
      (writer : List ℕ)
      × ((p ≡ key_path q writer)
      ⊎ ((payload : List ℕ) × (p ≡ datum_path (key_path q writer) payload)))
  IsUsed (Map kind shape) q p =
      (key : List ℕ) × ((p ≡ key_path q key) ⊎ IsUsed shape (key_path q key) p)
  IsUsed (Bag nodes) q p = AreUsed nodes q p

  -- p is a path that a field of a bag at q names: its header, or a path that its shape names.
  pub AreUsed : Nodes → Path → Path → Type 0
  AreUsed no_node q p = ⊥
  AreUsed (node name number shape nodes) q p =
      (p ≡ node_path q number) ⊎ (IsUsed shape (node_path q number) p ⊎ AreUsed nodes q p)

-- p is a path of the list, no marker's, that the table doesn't name.
abbrev pub IsForeign : Nodes → List Atom → Path → Type 0
IsForeign nodes list p = PathsOf list p × (last_atom p ≢ []) × ¬ (AreUsed nodes [] p)
