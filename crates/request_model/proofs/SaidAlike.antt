-- What paths say depends on data and keys alone.
use Rattle.std.proofs.Common.{◌≡◌, ◌⊎◌, inl, inr, ◌↔◌, ℕ, ◌-◌, ◌*◌, ◌<◌, List, [], ◌∷◌, ◌++◌, length, refl, sym, subst, append_assoc, arith}
use Rattle.context_model.specs.Atoms.{Atom}
use Rattle.context_model.specs.Kinds.{atom_of}
use Rattle.context_model.specs.Kinds.Kind.{Indexed, Keyed}
use Rattle.context_model.specs.Orders.{Path}
use Rattle.bag_model.specs.NormalForm.{Keeping, EachDatum, GreatestDatum, kept_by}
use Rattle.bag_model.specs.Readings.{key_path, node_path}
use Rattle.bag_model.specs.Shapes.{Shape, Nodes, Taint, Scalar, Set, Counter, Map, Bag, no_node, node}
use Rattle.bag_model.proofs.Covering.{CoversData, Covers, AreCovered}
use Rattle.bag_model.proofs.PathSets.{Both, FewerBelow}
use Rattle.keep_calls.proofs.ReadAlike.{SaysAlike}

-- The atom is a datum or the header of a key.
abbrev pub IsSaid : Atom → Type 0
IsSaid a = (b : ℕ) × (bytes : List ℕ) × (a ≡ b ∷ bytes) × ((b ≡ 0) ⊎ ((n : ℕ) × (b ≡ 249 - 8 * n)))

-- The data and the keys of the first set are some of the second.
abbrev pub SaysFewer : (Path → Type 0) → (Path → Type 0) → Type 0
SaysFewer P Q = (r : Path) (a : Atom) → IsSaid a → P (r ++ a ∷ []) → Q (r ++ a ∷ [])

pub datum_said : (bytes : List ℕ) → IsSaid (0 ∷ bytes)
datum_said bytes = (0, bytes, refl, inl refl)

pub key_said : (n : ℕ) (bytes : List ℕ) → IsSaid ((249 - 8 * n) ∷ bytes)
key_said n bytes = (249 - 8 * n, bytes, refl, inr (n, refl))

-- Neither is the header of a field.
pub said_other : (a : Atom) → IsSaid a → (first : ℕ) × (rest : List ℕ) × (a ≡ first ∷ rest) × ((m : ℕ) → m < 16 → first ≡ 248 - 8 * m → ⊥)
said_other a (b, bytes, e, kind) = (b, bytes, e, λ m l f. by m l f kind)
  where
    by : (m : ℕ) → m < 16 → b ≡ 248 - 8 * m → ((b ≡ 0) ⊎ ((n : ℕ) × (b ≡ 249 - 8 * n))) → ⊥
    by m l f (inl z) = omega (arith, l, f, z)
    by m l f (inr (n, z)) = omega (arith, l, f, z)

pub fewer_said : (P Q : Path → Type 0) → FewerBelow [] P Q → SaysFewer P Q
fewer_said P Q f r a s i = subst (λ x. Q (r ++ x ∷ [])) (sym s.2) (f r s.0 s.1 (subst (λ x. P (r ++ x ∷ [])) s.2 i))

-- With fewer data and keys beside all, all say the same.
pub both_alike : (q : Path) (P Q : Path → Type 0) → SaysFewer P Q → SaysAlike q (Both P Q) Q
both_alike q P Q f = λ r bytes. (by r (0 ∷ bytes) (datum_said bytes), λ n. by r ((249 - 8 * n) ∷ bytes) (key_said n bytes))
  where
    there : (r : Path) (a : Atom) → IsSaid a → Both P Q (q ++ (r ++ a ∷ [])) → Q (q ++ (r ++ a ∷ []))
    there r a s (inl i) = subst Q (append_assoc q r (a ∷ [])) (f (q ++ r) a s (subst P (sym (append_assoc q r (a ∷ []))) i))
    there r a s (inr i) = i

    by : (r : Path) (a : Atom) → IsSaid a → Both P Q (q ++ (r ++ a ∷ [])) ↔ Q (q ++ (r ++ a ∷ []))
    by r a s = (there r a s, λ i. inr i)

-- ---- sets with the same data and keys cover each other

alike_step : (q : Path) (a : Atom) (P Q : Path → Type 0) → SaysAlike q P Q → SaysAlike (q ++ a ∷ []) P Q
alike_step q a P Q s = λ r bytes. (
  by (r ++ (0 ∷ bytes) ∷ []) (s (a ∷ r) bytes).0,
  λ n. by (r ++ ((249 - 8 * n) ∷ bytes) ∷ []) ((s (a ∷ r) bytes).1 n),
)
  where
    by : (t : Path) → P (q ++ (a ∷ t)) ↔ Q (q ++ (a ∷ t)) → P ((q ++ a ∷ []) ++ t) ↔ Q ((q ++ a ∷ []) ++ t)
    by t f = subst (λ v. P v ↔ Q v) (sym (append_assoc q (a ∷ []) t)) f

data_covered : (keep : Keeping) (P Q : Path → Type 0) (q : Path) → SaysAlike q P Q → CoversData keep P Q q
data_covered keep P Q q s = ((λ x i. (s [] x).0.0 i), λ x i. (x, (s [] x).0.1 i, inl refl))

mutual
  pub Covers-says : (shape : Shape) (P Q : Path → Type 0) (q : Path) → SaysAlike q P Q → Covers shape P Q q
  Covers-says Taint P Q q s = data_covered EachDatum P Q q s
  Covers-says (Scalar pick kind) P Q q s = data_covered (kept_by pick) P Q q s
  Covers-says (Set kind) P Q q s = data_covered EachDatum P Q q s
  Covers-says Counter P Q q s = λ w. (
    ((λ i. ((s [] w).1 (length q)).0 i), λ i. ((s [] w).1 (length q)).1 i),
    data_covered GreatestDatum P Q (key_path q w) (alike_step q (atom_of (Keyed (length q) w)) P Q s),
  )
  Covers-says (Map kind shape) P Q q s = λ key. (
    ((λ i. ((s [] key).1 (length q)).0 i), λ i. ((s [] key).1 (length q)).1 i),
    λ spelled. Covers-says shape P Q (key_path q key) (alike_step q (atom_of (Keyed (length q) key)) P Q s),
  )
  Covers-says (Bag nodes) P Q q s = AreCovered-says nodes P Q q s

  AreCovered-says : (nodes : Nodes) (P Q : Path → Type 0) (q : Path) → SaysAlike q P Q → AreCovered nodes P Q q
  AreCovered-says no_node P Q q s = tt
  AreCovered-says (node name number shape nodes) P Q q s =
      (Covers-says shape P Q (node_path q number) (alike_step q (atom_of (Indexed (length q) number)) P Q s), AreCovered-says nodes P Q q s)
