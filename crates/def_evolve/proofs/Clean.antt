-- A list that is typed under an old table, and has no path that the old table doesn't name, is typed under a new one that fits.
use Rattle.std.proofs.Common.{◌≡◌, ◌≢◌, ◌⊎◌, inl, inr, ℕ, ◌-◌, ◌*◌, ◌^◌, ◌<◌, List, [], ◌∷◌, ◌++◌, length, refl, sym, ap, ◌∙◌, subst, arith}
use Rattle.context_model.specs.Kinds.{atom_of}
use Rattle.context_model.specs.Kinds.Kind.{Indexed, Keyed}
use Rattle.context_model.specs.Orders.{Path, IsIn}
use Rattle.context_model.specs.Merged.{last_atom}
use Rattle.bag_model.specs.Shapes.{Shape, Nodes, Field, Taint, Scalar, Set, Counter, Map, Bag, no_node, node, fields}
use Rattle.bag_model.specs.Tables.{IsShape, AreFields}
use Rattle.bag_model.specs.Readings.{key_path, node_path}
use Rattle.bag_model.specs.Typed.{IsSpelling, IsTyped, AreTyped, Misspells, SomeMisspells}
use Rattle.bag_model.specs.Encodings.{IsUsed, AreUsed}
use Rattle.bag_model.proofs.PathSets.{HasKeyHeaders, StandsBelow, below_one}
use Rattle.bag_model.proofs.PathsApart.{key_one-below, node_one-below, longer}
use Rattle.bag_model.proofs.IllTyped.{Misspells-below, IsTyped-spelled}
use Rattle.trace_model.proofs.PlainEnds.{plain_last}
use Rattle.def_evolve.specs.Breaks.{Fits}
use Rattle.def_evolve.proofs.Wider.{wider_spelling}
use Rattle.def_evolve.proofs.Fitting.{FieldsFit, FitsInside, fits_inside}

mutual
  -- What a field names is below its path.
  IsUsed-below : (shape : Shape) (q p : Path) → IsUsed shape q p → StandsBelow q p
  IsUsed-below Taint q p u = (0 ∷ u.0, [], u.1)
  IsUsed-below (Scalar pick kind) q p u = (0 ∷ u.0, [], u.1)
  IsUsed-below (Set kind) q p u = (0 ∷ u.0, [], u.1)
  IsUsed-below Counter q p u =
      elim u.1 [ inl e ↦ (atom_of (Keyed (length q) u.0), [], e) | inr d ↦ below_one q p (atom_of (Keyed (length q) u.0)) (0 ∷ d.0, [], d.1) ]
  IsUsed-below (Map kind shape) q p u =
      elim u.1 [ inl e ↦ (atom_of (Keyed (length q) u.0), [], e) | inr d ↦ below_one q p (atom_of (Keyed (length q) u.0)) (IsUsed-below shape (key_path q u.0) p d) ]
  IsUsed-below (Bag nodes) q p u = AreUsed-below nodes q p u

  AreUsed-below : (nodes : Nodes) (q p : Path) → AreUsed nodes q p → StandsBelow q p
  AreUsed-below no_node q p u = absurd u
  AreUsed-below (node name number shape nodes) q p (inl e) = (atom_of (Indexed (length q) number), [], e)
  AreUsed-below (node name number shape nodes) q p (inr (inl u)) = below_one q p (atom_of (Indexed (length q) number)) (IsUsed-below shape (node_path q number) p u)
  AreUsed-below (node name number shape nodes) q p (inr (inr u)) = AreUsed-below nodes q p u

-- the path ends so, and so not with a marker
ends_so : (p q : Path) (b : ℕ) (bytes : List ℕ) → p ≡ q ++ (b ∷ bytes) ∷ [] → last_atom p ≢ []
ends_so p q b bytes e none = plain_last q b bytes (ap last_atom (sym e) ∙ none)

mutual
  -- What misspells is no marker's path.
  Misspells-plain : (shape : Shape) (q p : Path) → Misspells shape q p → last_atom p ≢ []
  Misspells-plain Taint q p m = ends_so p q 0 m.0 m.1
  Misspells-plain (Scalar pick kind) q p m = ends_so p q 0 m.0 m.1
  Misspells-plain (Set kind) q p m = ends_so p q 0 m.0 m.1
  Misspells-plain Counter q p m = ends_so p (key_path q m.0) 0 m.1 m.2
  Misspells-plain (Map kind shape) q p m = elim m.1 [ inl e ↦ ends_so p q (249 - 8 * length q) m.0 e.0 | inr n ↦ Misspells-plain shape (key_path q m.0) p n ]
  Misspells-plain (Bag nodes) q p m = SomeMisspells-plain nodes q p m

  pub SomeMisspells-plain : (nodes : Nodes) (q p : Path) → SomeMisspells nodes q p → last_atom p ≢ []
  SomeMisspells-plain no_node q p m = absurd m
  SomeMisspells-plain (node name number shape nodes) q p (inl m) = Misspells-plain shape (node_path q number) p m
  SomeMisspells-plain (node name number shape nodes) q p (inr m) = SomeMisspells-plain nodes q p m

-- a field of a bag that is misspelled
record IsMisspelled (others : Nodes) (q p : Path) : Type 0 where
  field : Field
  there : IsIn field (fields others)
  small : field.number < 2 ^ 16
  inside : IsShape field.shape
  misspells : Misspells field.shape (node_path q field.number) p

misspelled : (others : Nodes) (q p : Path) → AreFields others → SomeMisspells others q p → IsMisspelled others q p
misspelled no_node q p ok m = absurd m
misspelled (node name number shape nodes) q p ok (inl m) = record { field = record { name = name; number = number; shape = shape }; there = inl refl; small = ok.1; inside = ok.2; misspells = m }
misspelled (node name number shape nodes) q p ok (inr m) =
    let s = misspelled nodes q p ok.4 m in
    record { field = s.field; there = inr s.there; small = s.small; inside = s.inside; misspells = s.misspells }

-- a path below two fields of one bag is below one
one_field : (q p : Path) (m n : ℕ) → m < 2 ^ 16 → n < 2 ^ 16 → StandsBelow (node_path q m) p → StandsBelow (node_path q n) p → m ≡ n
one_field q p m n f g a b = node_one-below q m n (a.0 ∷ a.1) (b.0 ∷ b.1) (omega (arith, f)) (omega (arith, g)) (sym a.2 ∙ b.2)

one_key : (q p : Path) (x y : List ℕ) → StandsBelow (key_path q x) p → StandsBelow (key_path q y) p → x ≡ y
one_key q p x y a b = key_one-below q x y (a.0 ∷ a.1) (b.0 ∷ b.1) (sym a.2 ∙ b.2)

mutual
  clean_at : (old new : Shape) (P : Path → Type 0) (q p : Path) → HasKeyHeaders P → IsShape old → IsShape new → Fits old new → IsTyped old P q → P p → IsUsed old q p → Misspells new q p → ⊥
  clean_at Taint Taint P q p h a b f t i u m = IsTyped-spelled Taint P q p h t i m
  clean_at (Scalar pick kind) (Scalar own wider) P q p h a b f t i u m =
      m.2 (wider_spelling kind wider m.0 (fits_inside (Scalar pick kind) (Scalar own wider) f).1 (t m.0 (subst P m.1 i)))
  clean_at (Set kind) (Set wider) P q p h a b f t i u m = m.2 (wider_spelling kind wider m.0 (fits_inside (Set kind) (Set wider) f) (t m.0 (subst P m.1 i)))
  clean_at Counter Counter P q p h a b f t i u m = IsTyped-spelled Counter P q p h t i m
  clean_at (Map kind shape) (Map wider more) P q p h a b f t i u m =
      by m.1 u.1 (λ v n e. clean_at shape more P (key_path q m.0) p h a.1 b.1 g.1 (t m.0 (key_there n)).1 i (subst (λ key. IsUsed shape (key_path q key) p) e v) n)
    where
      g : FitsInside (Map kind shape) (Map wider more)
      g = fits_inside (Map kind shape) (Map wider more) f

      key_there : Misspells more (key_path q m.0) p → P (key_path q m.0)
      key_there n = let s = Misspells-below more (key_path q m.0) p n in h q m.0 s.0 s.1 (subst P s.2 i)

      by : ((p ≡ key_path q m.0) × (IsSpelling wider m.0 → ⊥)) ⊎ Misspells more (key_path q m.0) p → (p ≡ key_path q u.0) ⊎ IsUsed shape (key_path q u.0) p
          → (IsUsed shape (key_path q u.0) p → Misspells more (key_path q m.0) p → u.0 ≡ m.0 → ⊥) → ⊥
      by (inl e) v deeper = e.1 (wider_spelling kind wider m.0 g.0 (t m.0 (subst P e.0 i)).0)
      by (inr n) (inl e) deeper =
          let s = Misspells-below more (key_path q m.0) p n in
          longer q s.1 (atom_of (Keyed (length q) u.0)) (atom_of (Keyed (length q) m.0)) s.0 (sym e ∙ s.2)
      by (inr n) (inr v) deeper = deeper v n (one_key q p u.0 m.0 (IsUsed-below shape (key_path q u.0) p v) (Misspells-below more (key_path q m.0) p n))
  clean_at (Bag nodes) (Bag others) P q p h a b f t i u m = clean_each nodes others P q p h a (fits_inside (Bag nodes) (Bag others) f) t i u (misspelled others q p b m)
  clean_at old new P q p h a b f t i u m = absurd (fits_inside old new f)

  clean_each : (nodes others : Nodes) (P : Path → Type 0) (q p : Path) → HasKeyHeaders P → AreFields nodes → FieldsFit nodes others → AreTyped nodes P q → P p → AreUsed nodes q p → IsMisspelled others q p → ⊥
  clean_each no_node others P q p h a f t i u m = u
  clean_each (node name number shape nodes) others P q p h a f t i (inl e) m =
      let s = Misspells-below (m.field).shape (node_path q (m.field).number) p m.misspells in
      longer q s.1 (atom_of (Indexed (length q) number)) (atom_of (Indexed (length q) (m.field).number)) s.0 (sym e ∙ s.2)
  clean_each (node name number shape nodes) others P q p h a f t i (inr (inl u)) m =
      let own : Field = record { name = name; number = number; shape = shape } in
      let one : (m.field).number ≡ number = one_field q p (m.field).number number m.small a.1 (Misspells-below (m.field).shape (node_path q (m.field).number) p m.misspells) (IsUsed-below shape (node_path q number) p u) in
      clean_at shape (m.field).shape P (node_path q number) p h a.2 m.inside (f own m.field (inl refl) m.there one) t.0 i u
      (subst (λ n. Misspells (m.field).shape (node_path q n) p) one m.misspells)
  clean_each (node name number shape nodes) others P q p h a f t i (inr (inr u)) m = clean_each nodes others P q p h a.4 (λ x y j k e. f x y (inr j) k e) t.1 i u m

-- In a set of paths that is typed under the old bag, no path that the old bag names is misspelled for the new one.
pub clean_in : (nodes others : Nodes) (P : Path → Type 0) (q p : Path) → HasKeyHeaders P → AreFields nodes → AreFields others → Fits (Bag nodes) (Bag others) → AreTyped nodes P q → P p → AreUsed nodes q p
    → SomeMisspells others q p → ⊥
clean_in nodes others P q p h a b f t i u m = clean_at (Bag nodes) (Bag others) P q p h a b f t i u m
