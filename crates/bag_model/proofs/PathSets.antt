-- Sets of paths: what two of them have below a path, and the union of some.
use Rattle.std.proofs.Common.{◌≡◌, ◌⊎◌, inl, inr, ℕ, List, [], ◌∷◌, ◌++◌, sym, ◌∙◌, subst, append_assoc}
use Rattle.context_model.specs.Atoms.{Atom}
use Rattle.context_model.specs.Orders.{Path}
use Rattle.bag_model.specs.Readings.{key_path}

-- The paths of both.
abbrev pub Both : (Path → Type 0) → (Path → Type 0) → Path → Type 0
Both P Q p = P p ⊎ Q p

-- The paths of all sets of a family.
abbrev pub AnyOf : {I : Type 0} → (I → Path → Type 0) → Path → Type 0
AnyOf {I} F p = (i : I) × F i p

-- Each path of the first set below q, except markers, is one of the second.
abbrev pub FewerBelow : Path → (Path → Type 0) → (Path → Type 0) → Type 0
FewerBelow q P Q = (p : Path) (b : ℕ) (bytes : List ℕ) → P (q ++ (p ++ (b ∷ bytes) ∷ [])) → Q (q ++ (p ++ (b ∷ bytes) ∷ []))

-- Both sets have the same paths below q, except for markers.
abbrev pub SameBelow : Path → (Path → Type 0) → (Path → Type 0) → Type 0
SameBelow q P Q = FewerBelow q P Q × FewerBelow q Q P

-- Where there is something below a key, the key is there too.
abbrev pub HasKeyHeaders : (Path → Type 0) → Type 0
HasKeyHeaders P = (q : Path) (key : List ℕ) (a : Atom) (r : Path) → P (key_path q key ++ a ∷ r) → P (key_path q key)

-- What holds below q holds below each path that begins with q.
pub fewer_step : (q : Path) (a : Atom) (P Q : Path → Type 0) → FewerBelow q P Q → FewerBelow (q ++ a ∷ []) P Q
fewer_step q a P Q f p b bytes i =
    subst Q (sym (append_assoc q (a ∷ []) (p ++ (b ∷ bytes) ∷ [])))
    (f (a ∷ p) b bytes (subst P (append_assoc q (a ∷ []) (p ++ (b ∷ bytes) ∷ [])) i))

pub same_step : (q : Path) (a : Atom) (P Q : Path → Type 0) → SameBelow q P Q → SameBelow (q ++ a ∷ []) P Q
same_step q a P Q f = (fewer_step q a P Q f.0, fewer_step q a Q P f.1)

-- A set with nothing below q adds nothing there.
pub same_first : (q : Path) (P Q : Path → Type 0) → ((a : Atom) (r : Path) → Q (q ++ a ∷ r) → ⊥) → SameBelow q P (Both P Q)
same_first q P Q none = ((λ p b bytes i. inl i), λ p b bytes i. by p b bytes i)
  where
    by : (p : Path) (b : ℕ) (bytes : List ℕ) → Both P Q (q ++ (p ++ (b ∷ bytes) ∷ [])) → P (q ++ (p ++ (b ∷ bytes) ∷ []))
    by p b bytes (inl i) = i
    by [] b bytes (inr i) = absurd (none (b ∷ bytes) [] i)
    by (x ∷ p) b bytes (inr i) = absurd (none x (p ++ (b ∷ bytes) ∷ []) i)

pub same_second : (q : Path) (P Q : Path → Type 0) → ((a : Atom) (r : Path) → P (q ++ a ∷ r) → ⊥) → SameBelow q Q (Both P Q)
same_second q P Q none = ((λ p b bytes i. inr i), λ p b bytes i. by p b bytes i)
  where
    by : (p : Path) (b : ℕ) (bytes : List ℕ) → Both P Q (q ++ (p ++ (b ∷ bytes) ∷ [])) → Q (q ++ (p ++ (b ∷ bytes) ∷ []))
    by p b bytes (inr i) = i
    by [] b bytes (inl i) = absurd (none (b ∷ bytes) [] i)
    by (x ∷ p) b bytes (inl i) = absurd (none x (p ++ (b ∷ bytes) ∷ []) i)

pub same_onwards : (q : Path) (P Q S : Path → Type 0) → SameBelow q P Q → SameBelow q Q S → SameBelow q P S
same_onwards q P Q S f g = ((λ p b bytes i. g.0 p b bytes (f.0 p b bytes i)), λ p b bytes i. f.1 p b bytes (g.1 p b bytes i))

-- ---- what is below a path

-- The path p has something after q.
abbrev pub StandsBelow : Path → Path → Type 0
StandsBelow q p = (a : Atom) × (r : Path) × (p ≡ q ++ a ∷ r)

-- what is below an atom after q is below q
pub below_one : (q p : Path) (x : Atom) → StandsBelow (q ++ x ∷ []) p → StandsBelow q p
below_one q p x s = (x, s.0 ∷ s.1, s.2 ∙ append_assoc q (x ∷ []) (s.0 ∷ s.1))
