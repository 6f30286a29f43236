-- Paths after one path: which of them are equal.
use Rattle.std.proofs.Common.{◌≡◌, ℕ, ◌-◌, ◌*◌, ◌^◌, ◌<◌, List, [], ◌∷◌, ◌++◌, length, refl, sym, ◌∙◌, append_assoc, append-nil}
use Rattle.std.proofs.lemmas.List.{append_cancel_left}
use Rattle.context_model.specs.Atoms.{Atom}
use Rattle.context_model.specs.Orders.{Path}
use Rattle.context_model.specs.Varints.{unsigned_varint}
use Rattle.context_model.proofs.VarintLaws.{unsigned_varint-injective}
use Rattle.bag_model.specs.Readings.{datum_path, key_path, node_path}

-- After one path, equal paths begin with one atom, and go on alike.
pub atoms_one : (q r s : Path) (x y : Atom) → q ++ x ∷ r ≡ q ++ y ∷ s → x ≡ y
atoms_one q r s x y e = let f : x ∷ r ≡ y ∷ s = append_cancel_left q (x ∷ r) (y ∷ s) e in cc

pub rests_one : (q r s : Path) (x y : Atom) → q ++ x ∷ r ≡ q ++ y ∷ s → r ≡ s
rests_one q r s x y e = let f : x ∷ r ≡ y ∷ s = append_cancel_left q (x ∷ r) (y ∷ s) e in cc

pub datum_one : (q : Path) (x y : List ℕ) → datum_path q x ≡ datum_path q y → x ≡ y
datum_one q x y e = let f : 0 ∷ x ≡ 0 ∷ y = atoms_one q [] [] (0 ∷ x) (0 ∷ y) e in cc

pub key_one : (q : Path) (x y : List ℕ) → key_path q x ≡ key_path q y → x ≡ y
key_one q x y e = same (249 - 8 * length q) (atoms_one q [] [] ((249 - 8 * length q) ∷ x) ((249 - 8 * length q) ∷ y) e)
  where
    same : (c : ℕ) → c ∷ x ≡ c ∷ y → x ≡ y
    same c f = cc

-- two paths of one key at most
pub key_one-below : (q : Path) (x y : List ℕ) (r s : Path) → key_path q x ++ r ≡ key_path q y ++ s → x ≡ y
key_one-below q x y r s e = same (249 - 8 * length q) x y (sym (append_assoc q (((249 - 8 * length q) ∷ x) ∷ []) r) ∙ e ∙ append_assoc q (((249 - 8 * length q) ∷ y) ∷ []) s)
  where
    same : (c : ℕ) (x y : List ℕ) → q ++ (c ∷ x) ∷ r ≡ q ++ (c ∷ y) ∷ s → x ≡ y
    same c x y f = let g : c ∷ x ≡ c ∷ y = atoms_one q r s (c ∷ x) (c ∷ y) f in cc

pub node_one-below : (q : Path) (m n : ℕ) (r s : Path) → m < 2 ^ 64 → n < 2 ^ 64 → node_path q m ++ r ≡ node_path q n ++ s → m ≡ n
node_one-below q m n r s f g e =
    unsigned_varint-injective m n f g
    (same (248 - 8 * length q) (unsigned_varint m) (unsigned_varint n) (sym (append_assoc q (((248 - 8 * length q) ∷ unsigned_varint m) ∷ []) r) ∙ e ∙ append_assoc q (((248 - 8 * length q) ∷ unsigned_varint n) ∷ []) s))
  where
    same : (c : ℕ) (x y : List ℕ) → q ++ (c ∷ x) ∷ r ≡ q ++ (c ∷ y) ∷ s → x ≡ y
    same c x y f = let g : c ∷ x ≡ c ∷ y = atoms_one q r s (c ∷ x) (c ∷ y) f in cc

-- A path of one atom after q has nothing after an atom there.
pub longer : (q r : Path) (x y a : Atom) → q ++ x ∷ [] ≡ (q ++ y ∷ []) ++ a ∷ r → ⊥
longer q r x y a e =
    let f : [] ≡ a ∷ r = rests_one q [] (a ∷ r) x y (e ∙ append_assoc q (y ∷ []) (a ∷ r)) in
    cc

-- A path with something after it is not that path.
pub nothing_more : (q p : Path) (z : Atom) → q ++ (p ++ z ∷ []) ≡ q → ⊥
nothing_more q p z e = by p (append_cancel_left q (p ++ z ∷ []) [] (e ∙ sym (append-nil q)))
  where
    by : (p : Path) → p ++ z ∷ [] ≡ [] → ⊥
    by [] f = cc
    by (x ∷ p) f = cc

-- A path that ends with an atom has a first one.
pub first_atom : (p : Path) (z : Atom) → (a : Atom) × (r : Path) × (p ++ z ∷ [] ≡ a ∷ r)
first_atom [] z = (z, [], refl)
first_atom (x ∷ p) z = (x, p ++ z ∷ [], refl)
