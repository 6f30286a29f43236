-- Paths are typed exactly where none of them misspells.
use Rattle.std.proofs.Common.{◌≡◌, ◌⊎◌, inl, inr, ℕ, List, [], ◌∷◌, length, refl, subst}
use Rattle.context_model.specs.Kinds.{atom_of}
use Rattle.context_model.specs.Kinds.Kind.{Indexed, Keyed}
use Rattle.context_model.specs.Atoms.{Atom}
use Rattle.context_model.specs.Orders.{Path}
use Rattle.context_model.specs.Paths.{path_at}
use Rattle.context_model.proofs.PlacesOf.{path_there}
use Rattle.bag_model.specs.Shapes.{Shape, Nodes, Taint, Scalar, Set, Counter, Map, Bag, no_node, node}
use Rattle.bag_model.specs.Readings.{datum_path, key_path, node_path, PathsOf}
use Rattle.bag_model.specs.Typed.{IsSpelling, IsTyped, AreTyped, Misspells, SomeMisspells, IsFirstIllTyped, TypedWhereNoneMisspells}
use Rattle.bag_model.proofs.PathSets.{HasKeyHeaders, StandsBelow, below_one}
use Rattle.bag_model.proofs.MergeReadingLaws.{PathsOf-headers}
use Rattle.bag_model.proofs.SpellingTests.{Decided, spelling_or_not, count_or_not, nothing_or_not}

mutual
  -- What misspells is below the path of the field.
  pub Misspells-below : (shape : Shape) (q p : Path) → Misspells shape q p → StandsBelow q p
  Misspells-below Taint q p m = (0 ∷ m.0, [], m.1)
  Misspells-below (Scalar pick kind) q p m = (0 ∷ m.0, [], m.1)
  Misspells-below (Set kind) q p m = (0 ∷ m.0, [], m.1)
  Misspells-below Counter q p m = below_one q p (atom_of (Keyed (length q) m.0)) (0 ∷ m.1, [], m.2)
  Misspells-below (Map kind shape) q p m =
      elim m.1 [ inl e ↦ (atom_of (Keyed (length q) m.0), [], e.0) | inr d ↦ below_one q p (atom_of (Keyed (length q) m.0)) (Misspells-below shape (key_path q m.0) p d) ]
  Misspells-below (Bag nodes) q p m = SomeMisspells-below nodes q p m

  pub SomeMisspells-below : (nodes : Nodes) (q p : Path) → SomeMisspells nodes q p → StandsBelow q p
  SomeMisspells-below no_node q p m = absurd m
  SomeMisspells-below (node name number shape nodes) q p (inl m) = below_one q p (atom_of (Indexed (length q) number)) (Misspells-below shape (node_path q number) p m)
  SomeMisspells-below (node name number shape nodes) q p (inr m) = SomeMisspells-below nodes q p m

mutual
  pub IsTyped-spelled : (shape : Shape) (P : Path → Type 0) (q p : Path) → HasKeyHeaders P → IsTyped shape P q → P p → Misspells shape q p → ⊥
  IsTyped-spelled Taint P q p h t i m = m.2 (t m.0 (subst P m.1 i))
  IsTyped-spelled (Scalar pick kind) P q p h t i m = m.2 (t m.0 (subst P m.1 i))
  IsTyped-spelled (Set kind) P q p h t i m = m.2 (t m.0 (subst P m.1 i))
  IsTyped-spelled Counter P q p h t i m = let j = subst P m.2 i in m.3 (t m.0 m.1 (h q m.0 (0 ∷ m.1) [] j) j)
  IsTyped-spelled (Map kind shape) P q p h t i m = by m.1 (λ d. IsTyped-spelled shape P (key_path q m.0) p h (typed_key d) i d)
    where
      by : ((p ≡ key_path q m.0) × (IsSpelling kind m.0 → ⊥)) ⊎ Misspells shape (key_path q m.0) p → (Misspells shape (key_path q m.0) p → ⊥) → ⊥
      by (inl e) deeper = e.1 (t m.0 (subst P e.0 i)).0
      by (inr d) deeper = deeper d

      typed_key : Misspells shape (key_path q m.0) p → IsTyped shape P (key_path q m.0)
      typed_key d = let s = Misspells-below shape (key_path q m.0) p d in (t m.0 (h q m.0 s.0 s.1 (subst P s.2 i))).1
  IsTyped-spelled (Bag nodes) P q p h t i m = AreTyped-spelled nodes P q p h t i m

  pub AreTyped-spelled : (nodes : Nodes) (P : Path → Type 0) (q p : Path) → HasKeyHeaders P → AreTyped nodes P q → P p → SomeMisspells nodes q p → ⊥
  AreTyped-spelled no_node P q p h t i m = m
  AreTyped-spelled (node name number shape nodes) P q p h t i (inl m) = IsTyped-spelled shape P (node_path q number) p h t.0 i m
  AreTyped-spelled (node name number shape nodes) P q p h t i (inr m) = AreTyped-spelled nodes P q p h t.1 i m

-- ---- and back, since bytes spell a value or don't

-- what doesn't fail holds, where it can be decided
told : {A : Type 0} → Decided A → ((A → ⊥) → ⊥) → A
told (inl a) f = a
told (inr no_a) f = absurd (f no_a)

mutual
  pub IsTyped-from : (shape : Shape) (P : Path → Type 0) (q : Path) → ((p : Path) → P p → Misspells shape q p → ⊥) → IsTyped shape P q
  IsTyped-from Taint P q f = λ payload i. told (nothing_or_not payload) (λ n. f (datum_path q payload) i (payload, refl, n))
  IsTyped-from (Scalar pick kind) P q f = λ payload i. told (spelling_or_not kind payload) (λ n. f (datum_path q payload) i (payload, refl, n))
  IsTyped-from (Set kind) P q f = λ payload i. told (spelling_or_not kind payload) (λ n. f (datum_path q payload) i (payload, refl, n))
  IsTyped-from Counter P q f = λ w payload i j. told (count_or_not payload) (λ n. f (datum_path (key_path q w) payload) j (w, payload, refl, n))
  IsTyped-from (Map kind shape) P q f = λ key i. (
    told (spelling_or_not kind key) (λ n. f (key_path q key) i (key, inl (refl, n))),
    IsTyped-from shape P (key_path q key) (λ p j m. f p j (key, inr m)),
  )
  IsTyped-from (Bag nodes) P q f = AreTyped-from nodes P q f

  pub AreTyped-from : (nodes : Nodes) (P : Path → Type 0) (q : Path) → ((p : Path) → P p → SomeMisspells nodes q p → ⊥) → AreTyped nodes P q
  AreTyped-from no_node P q f = tt
  AreTyped-from (node name number shape nodes) P q f = (
    IsTyped-from shape P (node_path q number) (λ p i m. f p i (inl m)),
    AreTyped-from nodes P q (λ p i m. f p i (inr m)),
  )

pub typed_where_none_misspells : TypedWhereNoneMisspells
typed_where_none_misspells nodes list = (
  (λ t p i m. AreTyped-spelled nodes (PathsOf list) [] p (PathsOf-headers list) t i m),
  λ f. AreTyped-from nodes (PathsOf list) [] f,
)

-- A list with a first ill-typed place is not typed.
pub first_ill_typed : (nodes : Nodes) (list : List Atom) (place : ℕ) → IsFirstIllTyped nodes list place → AreTyped nodes (PathsOf list) [] → ⊥
first_ill_typed nodes list place f t =
    AreTyped-spelled nodes (PathsOf list) [] (path_at list place) (PathsOf-headers list) t (path_there list place f.within) f.misspells
