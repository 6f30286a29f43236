-- The atoms of values, each with the atoms under it.
use Rattle.std.specs.Prelude.{ℕ, ◌+◌, if◌then◌else◌, List, [], ◌∷◌, ◌++◌}
use Rattle.std.specs.Option.{option_to_list}
use Rattle.context_model.specs.Atoms.{Atom}
use Rattle.context_model.specs.Kinds.{atom_of}
use Rattle.context_model.specs.Kinds.Kind.{Datum, Indexed, Keyed}
use Rattle.context_model.specs.Varints.{unsigned_varint}
use Rattle.bag_model.specs.Scalars.{ScalarKind, ScalarValue, spelling}
use Rattle.bag_model.specs.Shapes.{Shape, Nodes, Field, Taint, Scalar, Set, Counter, Map, Bag, no_node, node}
use Rattle.bag_model.specs.Values.{Value, Values, Taint, Scalar, Set, Counter, Map, Bag, no_value, value, pairs}

-- Atoms after one another, each with those under it.
pub data Trees : Type 0 where
  bare : Trees
  tree : Atom → Trees → Trees → Trees

-- The atoms in order: each is followed by those under it.
abbrev pub atoms : Trees → List Atom
atoms bare = []
atoms (tree a under behind) = a ∷ (atoms under ++ atoms behind)

-- An atom alone.
abbrev pub leaf : Atom → Trees
leaf a = tree a bare bare

-- An atom for each element, with what is under it.
abbrev pub trees_by : {X : Type 0} → (X → Atom) → (X → Trees) → List X → Trees
trees_by head under [] = bare
trees_by head under (x ∷ xs) = tree (head x) (under x) (trees_by head under xs)

-- A header, where there is something under it.
abbrev pub header_over : Atom → Trees → Trees → Trees
header_over header bare behind = behind
header_over header (tree a under next) behind = tree header (tree a under next) behind

-- The datum of a scalar.
abbrev pub scalar_datum : ScalarKind → ScalarValue → Atom
scalar_datum kind v = atom_of (Datum (spelling kind v))

-- The header of a map's key at this level.
abbrev pub key_header : ℕ → ScalarKind → ScalarValue × Value → Atom
key_header level kind e = atom_of (Keyed level (spelling kind e.0))

-- The header of a counter's writer at this level.
abbrev pub writer_header : ℕ → List ℕ × ℕ → Atom
writer_header level e = atom_of (Keyed level e.0)

-- The atoms of a value of this shape whose headers begin at this level: a datum where a taint is
-- on, one of a scalar that is there, one of each scalar of a set; for each writer its key and under
-- it its count; for each key of a map the key, and under it the atoms of its value.
abbrev mutual
  pub trees_of : Shape → ℕ → Value → Trees
  trees_of Taint level (Taint on) = if on then leaf (atom_of (Datum [])) else bare
  trees_of Taint level other = bare
  trees_of (Scalar pick kind) level (Scalar own v) =
      trees_by (scalar_datum kind) (λ _. bare) (option_to_list v)
  trees_of (Scalar pick kind) level other = bare
  trees_of (Set kind) level (Set own vs) = trees_by (scalar_datum kind) (λ _. bare) vs
  trees_of (Set kind) level other = bare
  trees_of Counter level (Counter counts) =
      trees_by (writer_header level) (λ e. leaf (atom_of (Datum (unsigned_varint e.1)))) counts
  trees_of Counter level other = bare
  trees_of (Map kind shape) level (Map es) =
      trees_by (key_header level kind) (λ e. trees_of shape (level + 1) e.1) (pairs es)
  trees_of (Map kind shape) level other = bare
  trees_of (Bag nodes) level (Bag vs) = field_trees nodes level vs
  trees_of (Bag nodes) level other = bare

  -- Of a bag's fields: a field that is bottom has no header.
  pub field_trees : Nodes → ℕ → Values → Trees
  field_trees no_node level vs = bare
  field_trees (node name number shape nodes) level no_value = bare
  field_trees (node name number shape nodes) level (value v vs) =
      header_over (atom_of (Indexed level number)) (trees_of shape (level + 1) v)
      (field_trees nodes level vs)

-- The atoms of a value of this shape.
abbrev pub atoms_of : Shape → ℕ → Value → List Atom
atoms_of shape level v = atoms (trees_of shape level v)

-- The atoms of the fields of a bag.
abbrev pub field_atoms : Nodes → ℕ → Values → List Atom
field_atoms nodes level vs = atoms (field_trees nodes level vs)

-- The atoms of a field by itself: none where its value is bottom.
abbrev pub one_field_atoms : Field → ℕ → Value → List Atom
one_field_atoms field level v =
    atoms (header_over (atom_of (Indexed level field.number))
    (trees_of field.shape (level + 1) v) bare)
