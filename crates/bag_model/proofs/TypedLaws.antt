-- Fewer paths are typed where more are, and a union is typed where each set is.
use Rattle.std.proofs.Common.{◌-◌, ◌*◌, [], ◌∷◌, ◌++◌, length, subst, append_assoc}
use Rattle.context_model.specs.Atoms.{Atom}
use Rattle.context_model.specs.Kinds.{atom_of}
use Rattle.context_model.specs.Kinds.Kind.{Indexed, Keyed}
use Rattle.context_model.specs.Orders.{Path}
use Rattle.bag_model.specs.Shapes.{Shape, Nodes, Taint, Scalar, Set, Counter, Map, Bag, no_node, node}
use Rattle.bag_model.specs.Readings.{key_path, node_path}
use Rattle.bag_model.specs.Typed.{IsTyped, AreTyped}
use Rattle.bag_model.proofs.PathSets.{AnyOf, FewerBelow, HasKeyHeaders, fewer_step}

mutual
  pub IsTyped-fewer : (shape : Shape) (P Q : Path → Type 0) (q : Path) → FewerBelow q P Q → IsTyped shape Q q → IsTyped shape P q
  IsTyped-fewer Taint P Q q f t = λ payload i. t payload (f [] 0 payload i)
  IsTyped-fewer (Scalar pick kind) P Q q f t = λ payload i. t payload (f [] 0 payload i)
  IsTyped-fewer (Set kind) P Q q f t = λ payload i. t payload (f [] 0 payload i)
  IsTyped-fewer Counter P Q q f t = λ w payload i j.
      t w payload (f [] (249 - 8 * length q) w i) (fewer_step q (atom_of (Keyed (length q) w)) P Q f [] 0 payload j)
  IsTyped-fewer (Map kind shape) P Q q f t = λ key i.
      let typed = t key (f [] (249 - 8 * length q) key i) in
      (typed.0, IsTyped-fewer shape P Q (key_path q key) (fewer_step q (atom_of (Keyed (length q) key)) P Q f) typed.1)
  IsTyped-fewer (Bag nodes) P Q q f t = AreTyped-fewer nodes P Q q f t

  pub AreTyped-fewer : (nodes : Nodes) (P Q : Path → Type 0) (q : Path) → FewerBelow q P Q → AreTyped nodes Q q → AreTyped nodes P q
  AreTyped-fewer no_node P Q q f t = tt
  AreTyped-fewer (node name number shape nodes) P Q q f t =
      (IsTyped-fewer shape P Q (node_path q number) (fewer_step q (atom_of (Indexed (length q) number)) P Q f) t.0, AreTyped-fewer nodes P Q q f t.1)

-- There is something below the path.
abbrev pub HasBelow : (Path → Type 0) → Path → Type 0
HasBelow P q = (a : Atom) × (r : Path) × P (q ++ a ∷ r)

-- below a path and one atom more
below_first : (P : Path → Type 0) (q : Path) (a : Atom) → HasBelow P (q ++ a ∷ []) → HasBelow P q
below_first P q a h = (a, h.0 ∷ h.1, subst P (append_assoc q (a ∷ []) (h.0 ∷ h.1)) h.2)

mutual
  -- A union is typed where each set is, as soon as something of the set is there.
  pub IsTyped-any : (shape : Shape) (I : Type 0) (F : I → Path → Type 0) (q : Path) → ((i : I) → HasKeyHeaders (F i))
      → ((i : I) → HasBelow (F i) q → IsTyped shape (F i) q) → IsTyped shape (AnyOf F) q
  IsTyped-any Taint I F q h t = λ payload i. t i.0 (0 ∷ payload, [], i.1) payload i.1
  IsTyped-any (Scalar pick kind) I F q h t = λ payload i. t i.0 (0 ∷ payload, [], i.1) payload i.1
  IsTyped-any (Set kind) I F q h t = λ payload i. t i.0 (0 ∷ payload, [], i.1) payload i.1
  IsTyped-any Counter I F q h t = λ w payload i j.
      let key : F j.0 (key_path q w) = h j.0 q w (0 ∷ payload) [] j.1 in
      t j.0 (atom_of (Keyed (length q) w), [], key) w payload key j.1
  IsTyped-any (Map kind shape) I F q h t = λ key i. (
    (t i.0 (atom_of (Keyed (length q) key), [], i.1) key i.1).0,
    IsTyped-any shape I F (key_path q key) h (λ j b. (t j (below_first (F j) q (atom_of (Keyed (length q) key)) b) key (h j q key b.0 b.1 b.2)).1),
  )
  IsTyped-any (Bag nodes) I F q h t = AreTyped-any nodes I F q h t

  pub AreTyped-any : (nodes : Nodes) (I : Type 0) (F : I → Path → Type 0) (q : Path) → ((i : I) → HasKeyHeaders (F i))
      → ((i : I) → HasBelow (F i) q → AreTyped nodes (F i) q) → AreTyped nodes (AnyOf F) q
  AreTyped-any no_node I F q h t = tt
  AreTyped-any (node name number shape nodes) I F q h t = (
    IsTyped-any shape I F (node_path q number) h (λ i b. (t i (below_first (F i) q (atom_of (Indexed (length q) number)) b)).0),
    AreTyped-any nodes I F q h (λ i b. (t i b).1),
  )
