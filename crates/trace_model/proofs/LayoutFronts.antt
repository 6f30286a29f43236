-- The prefixes of the paths of a layout, and how the paths that a table names end.
use Rattle.std.proofs.Common.{◌≡◌, ◌⊎◌, inl, inr, ℕ, ◌-◌, ◌*◌, List, [], ◌∷◌, ◌++◌, length, Some, refl, sym, ◌∙◌, append-nil}
use Rattle.context_model.specs.Atoms.{Atom}
use Rattle.context_model.specs.Orders.{Path}
use Rattle.context_model.specs.Varints.{unsigned_varint}
use Rattle.bag_model.specs.Scalars.{spelling}
use Rattle.bag_model.specs.Shapes.{Shape, Nodes, Taint, Scalar, Set, Counter, Map, Bag, no_node, node}
use Rattle.bag_model.specs.Values.{Value, Values, Taint, Scalar, Set, Counter, Map, Bag, no_value, value}
use Rattle.bag_model.specs.Readings.{key_path, node_path}
use Rattle.bag_model.specs.Encodings.{InLayout, InLayouts, IsUsed, AreUsed}
use Rattle.bag_model.proofs.PathSets.{HasKeyHeaders}

-- The path f is a prefix of q.
abbrev pub IsFrontOf : Path → Path → Type 0
IsFrontOf f q = (rest : Path) × (q ≡ f ++ rest)

no_more : (f r : Path) (a : Atom) → f ++ a ∷ r ≡ [] → ⊥
no_more [] r a e = cc
no_more (x ∷ f) r a e = cc

-- a prefix with more after it, of a path with one atom more
front_before : (f r q : Path) (a x : Atom) → f ++ a ∷ r ≡ q ++ x ∷ [] → IsFrontOf f q
front_before [] r q a x e = (q, refl)
front_before (y ∷ f) r [] a x e = absurd (no_more f r a (tails e))
  where
    tails : y ∷ (f ++ a ∷ r) ≡ x ∷ [] → f ++ a ∷ r ≡ []
    tails d = cc
front_before (y ∷ f) r (z ∷ q) a x e = by (front_before f r q a x (tails e)) (heads e)
  where
    tails : y ∷ (f ++ a ∷ r) ≡ z ∷ (q ++ x ∷ []) → f ++ a ∷ r ≡ q ++ x ∷ []
    tails d = cc

    heads : y ∷ (f ++ a ∷ r) ≡ z ∷ (q ++ x ∷ []) → z ≡ y
    heads d = cc

    by : IsFrontOf f q → z ≡ y → IsFrontOf (y ∷ f) (z ∷ q)
    by s h = (s.0, λ i. h i ∷ s.1 i)

front_or_whole : (f q : Path) (x : Atom) → IsFrontOf f (q ++ x ∷ []) → IsFrontOf f q ⊎ (f ≡ q ++ x ∷ [])
front_or_whole f q x ([], e) = inr (sym (append-nil f) ∙ sym e)
front_or_whole f q x (a ∷ r, e) = inl (front_before f r q a x (sym e))

mutual
  -- A prefix of a path of a layout is above the layout, or is one of its paths.
  pub InLayout-front : (shape : Shape) (q : Path) (v : Value) (f : Path) (a : Atom) (r : Path) → InLayout shape q v (f ++ a ∷ r) → IsFrontOf f q ⊎ InLayout shape q v f
  InLayout-front Taint q (Taint on) f a r l = inl (front_before f r q a (0 ∷ []) l.1)
  InLayout-front Taint q v f a r l = absurd l
  InLayout-front (Scalar pick kind) q (Scalar own (Some v)) f a r l = inl (front_before f r q a (0 ∷ spelling kind v) l)
  InLayout-front (Scalar pick kind) q v f a r l = absurd l
  InLayout-front (Set kind) q (Set own vs) f a r l = inl (front_before f r q a (0 ∷ spelling kind l.0) l.2)
  InLayout-front (Set kind) q v f a r l = absurd l
  InLayout-front Counter q (Counter counts) f a r l = elim l.3 [
    | inl e ↦ inl (front_before f r q a ((249 - 8 * length q) ∷ l.0) e)
    | inr e ↦ elim (front_or_whole f q ((249 - 8 * length q) ∷ l.0) (front_before f r (key_path q l.0) a (0 ∷ unsigned_varint l.1) e)) [
      | inl s ↦ inl s
      | inr whole ↦ inr (l.0, l.1, l.2, inl whole)
    ]
  ]
  InLayout-front Counter q v f a r l = absurd l
  InLayout-front (Map kind shape) q (Map es) f a r l = elim l.3 [
    | inl e ↦ inl (front_before f r q a ((249 - 8 * length q) ∷ spelling kind l.0) e)
    | inr d ↦ elim (InLayout-front shape (key_path q (spelling kind l.0)) l.1 f a r d) [
      | inl s ↦ elim (front_or_whole f q ((249 - 8 * length q) ∷ spelling kind l.0) s) [ inl t ↦ inl t | inr whole ↦ inr (l.0, l.1, l.2, inl whole) ]
      | inr g ↦ inr (l.0, l.1, l.2, inr g)
    ]
  ]
  InLayout-front (Map kind shape) q v f a r l = absurd l
  InLayout-front (Bag nodes) q (Bag vs) f a r l = InLayouts-front nodes q vs f a r l
  InLayout-front (Bag nodes) q v f a r l = absurd l

  pub InLayouts-front : (nodes : Nodes) (q : Path) (vs : Values) (f : Path) (a : Atom) (r : Path) → InLayouts nodes q vs (f ++ a ∷ r) → IsFrontOf f q ⊎ InLayouts nodes q vs f
  InLayouts-front no_node q vs f a r l = absurd l
  InLayouts-front (node name number shape nodes) q no_value f a r l = absurd l
  InLayouts-front (node name number shape nodes) q (value v vs) f a r (inl l) = elim l.1 [
    | inl e ↦ inl (front_before f r q a ((248 - 8 * length q) ∷ unsigned_varint number) e)
    | inr d ↦ elim (InLayout-front shape (node_path q number) v f a r d) [
      | inl s ↦ elim (front_or_whole f q ((248 - 8 * length q) ∷ unsigned_varint number) s) [ inl t ↦ inl t | inr whole ↦ inr (inl (l.0, inl whole)) ]
      | inr g ↦ inr (inl (l.0, inr g))
    ]
  ]
  InLayouts-front (node name number shape nodes) q (value v vs) f a r (inr l) =
      elim (InLayouts-front nodes q vs f a r l) [ inl s ↦ inl s | inr g ↦ inr (inr g) ]

-- Where there is something below a key of a layout, the key is there too.
pub InLayouts-headers : (nodes : Nodes) (vs : Values) → HasKeyHeaders (InLayouts nodes [] vs)
InLayouts-headers nodes vs q key a r l = elim (InLayouts-front nodes [] vs (key_path q key) a r l) [ inl s ↦ absurd (none q s.0 s.1) | inr g ↦ g ]
  where
    none : (q rest : Path) → [] ≡ key_path q key ++ rest → ⊥
    none [] rest e = cc
    none (x ∷ q) rest e = cc

-- ---- how paths end

-- The path ends in an atom that is no marker.
abbrev pub EndsPlainly : Path → Type 0
EndsPlainly p = (q : Path) × (b : ℕ) × (bytes : List ℕ) × (p ≡ q ++ (b ∷ bytes) ∷ [])

mutual
  -- The paths that a table names end so.
  pub IsUsed-plain : (shape : Shape) (q p : Path) → IsUsed shape q p → EndsPlainly p
  IsUsed-plain Taint q p u = (q, 0, u.0, u.1)
  IsUsed-plain (Scalar pick kind) q p u = (q, 0, u.0, u.1)
  IsUsed-plain (Set kind) q p u = (q, 0, u.0, u.1)
  IsUsed-plain Counter q p u = elim u.1 [ inl e ↦ (q, 249 - 8 * length q, u.0, e) | inr d ↦ (key_path q u.0, 0, d.0, d.1) ]
  IsUsed-plain (Map kind shape) q p u = elim u.1 [ inl e ↦ (q, 249 - 8 * length q, u.0, e) | inr d ↦ IsUsed-plain shape (key_path q u.0) p d ]
  IsUsed-plain (Bag nodes) q p u = AreUsed-plain nodes q p u

  pub AreUsed-plain : (nodes : Nodes) (q p : Path) → AreUsed nodes q p → EndsPlainly p
  AreUsed-plain no_node q p u = absurd u
  AreUsed-plain (node name number shape nodes) q p (inl e) = (q, 248 - 8 * length q, unsigned_varint number, e)
  AreUsed-plain (node name number shape nodes) q p (inr (inl u)) = IsUsed-plain shape (node_path q number) p u
  AreUsed-plain (node name number shape nodes) q p (inr (inr u)) = AreUsed-plain nodes q p u
