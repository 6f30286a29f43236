-- Paths that are spelled as the fields of a bag say.
use Rattle.std.specs.Prelude.{◌≡◌, ◌≢◌, ◌⊎◌, ◌↔◌, ◌^◌, ◌<◌, ℕ, List, [], length}
use Rattle.context_model.specs.Atoms.{Atom}
use Rattle.context_model.specs.Orders.{Path}
use Rattle.context_model.specs.Paths.{path_at}
use Rattle.context_model.specs.Varints.{unsigned_varint}
use Rattle.bag_model.specs.Scalars.{ScalarKind, ScalarValue, IsScalarOf, spelling}
use Rattle.bag_model.specs.Shapes.{Shape, Nodes, Taint, Scalar, Set, Counter, Map, Bag, no_node, node}
use Rattle.bag_model.specs.Values.{Values}
use Rattle.bag_model.specs.Readings.{datum_path, key_path, node_path, PathsOf, SaysValues}

-- The bytes are the spelling of a value of the kind.
abbrev pub IsSpelling : ScalarKind → List ℕ → Type 0
IsSpelling kind bytes = (v : ScalarValue) × IsScalarOf kind v × (bytes ≡ spelling kind v)

-- The bytes are the spelling of a count of 64 bits.
abbrev pub IsCount : List ℕ → Type 0
IsCount bytes = (n : ℕ) × (n < 2 ^ 64) × (bytes ≡ unsigned_varint n)

-- Each datum and each key that is read of a field of this shape at q is the spelling of a value of
-- its type; the datum of a taint is empty.
abbrev mutual
  pub IsTyped : Shape → (Path → Type 0) → Path → Type 0
  IsTyped Taint P q = (payload : List ℕ) → P (datum_path q payload) → payload ≡ []
  IsTyped (Scalar pick kind) P q =
      (payload : List ℕ) → P (datum_path q payload) → IsSpelling kind payload
  IsTyped (Set kind) P q =
      (payload : List ℕ) → P (datum_path q payload) → IsSpelling kind payload
  IsTyped Counter P q =
      (writer payload : List ℕ) → P (key_path q writer) → P (datum_path (key_path q writer) payload)
      → IsCount payload
  IsTyped (Map kind shape) P q =
      (key : List ℕ) → P (key_path q key) → IsSpelling kind key × IsTyped shape P (key_path q key)
  IsTyped (Bag nodes) P q = AreTyped nodes P q

  -- Each datum and each key that is read of a field of a bag at q is the spelling of a value of its
  -- type.
  pub AreTyped : Nodes → (Path → Type 0) → Path → Type 0
  AreTyped no_node P q = Unit {0}
  AreTyped (node name number shape nodes) P q =
      IsTyped shape P (node_path q number) × AreTyped nodes P q

-- ---- the first that is ill typed

-- p is a datum or a key that is read of a field of this shape at q, and no spelling of a value of
-- its type.
abbrev mutual
  pub Misspells : Shape → Path → Path → Type 0
  Misspells Taint q p = (payload : List ℕ) × (p ≡ datum_path q payload) × (payload ≢ [])
  Misspells (Scalar pick kind) q p =
      (payload : List ℕ) × (p ≡ datum_path q payload) × ¬ (IsSpelling kind payload)
  Misspells (Set kind) q p =
      (payload : List ℕ) × (p ≡ datum_path q payload) × ¬ (IsSpelling kind payload)
  Misspells Counter q p =
      (writer payload : List ℕ) × (p ≡ datum_path (key_path q writer) payload) × ¬ (IsCount payload)
  Misspells (Map kind shape) q p =
      (key : List ℕ)
      × (((p ≡ key_path q key) × ¬ (IsSpelling kind key)) ⊎ Misspells shape (key_path q key) p)
  Misspells (Bag nodes) q p = SomeMisspells nodes q p

  -- p is a datum or a key that is read of a field of a bag at q, and no spelling of a value of its
  -- type.
  pub SomeMisspells : Nodes → Path → Path → Type 0
  SomeMisspells no_node q p = ⊥
  SomeMisspells (node name number shape nodes) q p =
      Misspells shape (node_path q number) p ⊎ SomeMisspells nodes q p

-- The path at this place of the list misspells, and that of no lesser place does.
pub record IsFirstIllTyped (nodes : Nodes) (list : List Atom) (place : ℕ) : Type 0 where
  pub within : place < length list
  pub misspells : SomeMisspells nodes [] (path_at list place)
  pub first : (earlier : ℕ) → earlier < place → SomeMisspells nodes [] (path_at list earlier) → ⊥

-- A list is typed exactly where none of its paths misspells.
abbrev pub TypedWhereNoneMisspells : Type 0
TypedWhereNoneMisspells = (nodes : Nodes) (list : List Atom)
    → AreTyped nodes (PathsOf list) []
    ↔ ((p : Path) → PathsOf list p → SomeMisspells nodes [] p → ⊥)

-- Each list says values of all fields of each bag, whether it is typed or not: what isn't spelled
-- as a field says counts for nothing.
abbrev pub AllListsSay : Type 0
AllListsSay = (nodes : Nodes) (list : List Atom) → (vs : Values) × SaysValues nodes list vs

-- Each typed list says values of all fields of each bag.
abbrev pub TypedListsSay : Type 0
TypedListsSay = (nodes : Nodes) (list : List Atom) → AreTyped nodes (PathsOf list) []
    → (vs : Values) × SaysValues nodes list vs
