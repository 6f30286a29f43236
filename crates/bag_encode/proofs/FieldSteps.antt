-- Loops over the fields of a bag and their values together: what is after a place.
use Rattle.std.proofs.Common.{◌≡◌, ◌≢◌, ℕ, zero, suc, ◌+◌, ◌<◌, ◌≤◌, List, [], ◌∷◌, ◌++◌, length, IsSome, Option, Some, None, refl, sym, ap, ◌∙◌, subst, arith, add-one, append-nil, rules}
use Rattle.std.specs.List.{slice_get}
use Rattle.std.specs.Option.{option_map}
use Rattle.context_model.specs.Atoms.{Atom, AreAtoms}
use Rattle.context_model.specs.Kinds.{atom_of}
use Rattle.context_model.specs.Kinds.Kind.{Indexed}
use Rattle.bag_model.specs.Shapes.{Nodes, Field, fields, no_node, node}
use Rattle.bag_model.specs.Values.{Value, Values, no_value, value, values_list, IsOfShape, AreOfShapes}
use Rattle.bag_model.specs.Joins.{IsBottom}
use Rattle.bag_encode.specs.Values.{Trees, bare, tree, atoms, header_over, trees_of, atoms_of, field_trees, field_atoms, one_field_atoms}
use Rattle.bag_encode.proofs.LaidOut.{bottom_bare, bare_bottom}

-- The fields from a place on, and the values.
abbrev pub nodes_from_place : ℕ → Nodes → Nodes
nodes_from_place zero nodes = nodes
nodes_from_place (suc i) no_node = no_node
nodes_from_place (suc i) (node name number shape nodes) = nodes_from_place i nodes

abbrev pub values_from_place : ℕ → Values → Values
values_from_place zero vs = vs
values_from_place (suc i) no_value = no_value
values_from_place (suc i) (value v vs) = values_from_place i vs

pub node_there : (nodes : Nodes) (i : ℕ) (f : Field) → slice_get (fields nodes) i ≡ Some f → nodes_from_place i nodes ≡ node f.name f.number f.shape (nodes_from_place (i + 1) nodes)
node_there nodes i f at = by nodes i at ∙ ap (λ n. node f.name f.number f.shape (nodes_from_place n nodes)) (sym (add-one i))
  where
    by : (nodes : Nodes) (i : ℕ) → slice_get (fields nodes) i ≡ Some f → nodes_from_place i nodes ≡ node f.name f.number f.shape (nodes_from_place (suc i) nodes)
    by no_node i at = absurd (cc at)
    by (node name number shape nodes) zero at =
        let same : record { name = name; number = number; shape = shape } ≡ f = cc at in
        ap (λ (g : Field). node g.name g.number g.shape nodes) same
    by (node name number shape nodes) (suc i) at = by nodes i at

pub value_there : (vs : Values) (i : ℕ) (v : Value) → slice_get (values_list vs) i ≡ Some v → values_from_place i vs ≡ value v (values_from_place (i + 1) vs)
value_there vs i v at = by vs i at ∙ ap (λ n. value v (values_from_place n vs)) (sym (add-one i))
  where
    by : (vs : Values) (i : ℕ) → slice_get (values_list vs) i ≡ Some v → values_from_place i vs ≡ value v (values_from_place (suc i) vs)
    by no_value i at = absurd (cc at)
    by (value w vs) zero at = let same : w ≡ v = cc at in ap (λ u. value u vs) same
    by (value w vs) (suc i) at = by vs i at

pub nodes_end : (nodes : Nodes) (i : ℕ) → length (fields nodes) ≤ i → nodes_from_place i nodes ≡ no_node
nodes_end no_node zero l = refl
nodes_end no_node (suc i) l = refl
nodes_end (node name number shape nodes) zero l = absurd (omega (arith, l))
nodes_end (node name number shape nodes) (suc i) l = nodes_end nodes i (omega (arith, l))

-- There is a value for each field.
pub value_for : (nodes : Nodes) (vs : Values) (i : ℕ) → AreOfShapes nodes vs → i < length (fields nodes) → i < length (values_list vs)
value_for no_node vs i o l = absurd (omega (arith, l))
value_for (node name number shape nodes) no_value i o l = absurd o
value_for (node name number shape nodes) (value v vs) zero o l = omega arith
value_for (node name number shape nodes) (value v vs) (suc i) o l = omega (arith, value_for nodes vs i o.1 (omega (arith, l)))

module _ {A B : Type 0} (f : A → B) where
  none_there : (xs : List B) (i : ℕ) → None ≡ slice_get xs i → i < length xs → ⊥
  none_there [] i e l = omega (arith, l)
  none_there (x ∷ xs) zero e l = cc
  none_there (x ∷ xs) (suc i) e l = none_there xs i e (omega (arith, l))

  pub some_there : (o : Option A) (xs : List B) (i : ℕ) → option_map f o ≡ slice_get xs i → i < length xs → IsSome o
  some_there None xs i e l = absurd (none_there xs i e l)
  some_there (Some x) xs i e l = search rules

-- ---- the atoms of the next field

over_atoms : (h : Atom) (t behind : Trees) → atoms (header_over h t behind) ≡ atoms (header_over h t bare) ++ atoms behind
over_atoms h bare behind = refl
over_atoms h (tree a under next) behind = ap (λ l. h ∷ (l ++ atoms behind)) (sym (append-nil (atoms (tree a under next))))

module _ (nodes : Nodes) (vs : Values) (level i : ℕ) (f : Field) (v : Value) (field_at : slice_get (fields nodes) i ≡ Some f) (value_at : slice_get (values_list vs) i ≡ Some v) where
  pub field_turn : field_atoms (nodes_from_place i nodes) level (values_from_place i vs)
      ≡ one_field_atoms f level v ++ field_atoms (nodes_from_place (i + 1) nodes) level (values_from_place (i + 1) vs)
  field_turn =
      (let a = node_there nodes i f field_at in let b = value_there vs i v value_at in λ t. field_atoms (a t) level (b t))
      ∙ over_atoms (atom_of (Indexed level f.number)) (trees_of f.shape (level + 1) v) (field_trees (nodes_from_place (i + 1) nodes) level (values_from_place (i + 1) vs))

  pub shapes_turn : AreOfShapes (nodes_from_place i nodes) (values_from_place i vs) → IsOfShape f.shape v × AreOfShapes (nodes_from_place (i + 1) nodes) (values_from_place (i + 1) vs)
  shapes_turn o =
      subst (λ (n : Nodes). AreOfShapes n (value v (values_from_place (i + 1) vs))) (node_there nodes i f field_at)
      (subst (λ (w : Values). AreOfShapes (nodes_from_place i nodes) w) (value_there vs i v value_at) o)

pub AreAtoms-front : (xs ys : List Atom) → AreAtoms (xs ++ ys) → AreAtoms xs
AreAtoms-front [] ys short = tt
AreAtoms-front (x ∷ xs) ys short = (short.0, AreAtoms-front xs ys short.1)

pub AreAtoms-back : (xs ys : List Atom) → AreAtoms (xs ++ ys) → AreAtoms ys
AreAtoms-back [] ys short = short
AreAtoms-back (x ∷ xs) ys short = AreAtoms-back xs ys short.1

-- ---- one field

-- A field that is bottom has no atoms,
pub bottom_atoms : (f : Field) (level : ℕ) (v : Value) → IsBottom v → one_field_atoms f level v ≡ []
bottom_atoms f level v b = ap (λ (t : Trees). atoms (header_over (atom_of (Indexed level f.number)) t bare)) (bottom_bare f.shape (level + 1) v b)

pub header_atoms : (h : Atom) (t : Trees) → t ≢ bare → atoms (header_over h t bare) ≡ h ∷ atoms t
header_atoms h bare some = absurd (some refl)
header_atoms h (tree a under next) some = ap (λ l. h ∷ l) (append-nil (atoms (tree a under next)))

-- and each other its header, and then those of its value.
pub said_atoms : (f : Field) (level : ℕ) (v : Value) → IsOfShape f.shape v → ¬ (IsBottom v) → one_field_atoms f level v ≡ atom_of (Indexed level f.number) ∷ atoms_of f.shape (level + 1) v
said_atoms f level v o some =
    header_atoms (atom_of (Indexed level f.number)) (trees_of f.shape (level + 1) v) (λ e. some (bare_bottom f.shape (level + 1) v o e))
