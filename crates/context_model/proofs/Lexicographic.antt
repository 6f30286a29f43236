-- Prefixes of a path in the order of paths.
use Rattle.std.proofs.Common.{◌≡◌, ℕ, zero, suc, ◌≤◌, [], ◌∷◌, ◌++◌, length, take, Ordering, Less, Equal, Greater, sym, refl, ap, ◌∙◌, arith}
use Rattle.std.specs.Ordering.{ordering_then, ordering_reverse}
use Rattle.std.proofs.lemmas.Cmp.{tied_itself}
use Rattle.context_model.specs.Atoms.{Atom}
use Rattle.context_model.specs.Orders.{Path, atom_cmp, path_cmp}
use Rattle.context_model.proofs.OrderLaws.{atoms_total, atoms_anti}

-- The first atom, where there is one, comes before x.
abbrev pub StartsBelow : Path → Atom → Type 0
StartsBelow [] x = Unit {0}
StartsBelow (z ∷ q) x = atom_cmp z x ≡ Less

-- The path m begins with the first n atoms of s, and its next atom, where there is one, comes before x.
pub record Between (n : ℕ) (s : Path) (x : Atom) (m : Path) : Type 0 where
  pub rest : Path
  pub front : m ≡ take n s ++ rest
  pub below : StartsBelow rest x

-- a path before one of a single atom begins with a lesser one
head_below : (z x : Atom) (q : Path) → path_cmp (z ∷ q) (x ∷ []) ≡ Less → atom_cmp z x ≡ Less
head_below z x q g = by (atom_cmp z x) refl g
  where
    behind : (q : Path) → path_cmp q [] ≡ Less → ⊥
    behind [] h = cc
    behind (y ∷ q) h = cc

    by : (r : Ordering) → atom_cmp z x ≡ r → ordering_then r (path_cmp q []) ≡ Less → atom_cmp z x ≡ Less
    by Less e g = e
    by Equal e g = absurd (behind q g)
    by Greater e g = cc

starts_below : (q : Path) (x : Atom) → path_cmp q (x ∷ []) ≡ Less → StartsBelow q x
starts_below [] x g = tt
starts_below (z ∷ q) x g = head_below z x q g

-- What lies from s on and before the first n atoms of s with x after them begins with these n
-- atoms.
pub between : (n : ℕ) (s m : Path) (x : Atom) → n ≤ length s → (path_cmp s m ≡ Greater → ⊥) → path_cmp m (take n s ++ x ∷ []) ≡ Less → Between n s x m
between zero s m x h f g = record { rest = m; front = refl; below = starts_below m x g }
between (suc n) [] m x h f g = absurd (omega arith)
between (suc n) (a ∷ s) [] x h f g = absurd (f refl)
between (suc n) (a ∷ s) (b ∷ m) x h f g = by (atom_cmp a b) refl f (λ k l. between n s m x (omega arith) k l)
  where
    by : (r : Ordering) → atom_cmp a b ≡ r → (ordering_then r (path_cmp s m) ≡ Greater → ⊥)
        → ((path_cmp s m ≡ Greater → ⊥) → path_cmp m (take n s ++ x ∷ []) ≡ Less → Between n s x m) → Between (suc n) (a ∷ s) x (b ∷ m)
    by Less e f deeper =
        let back : atom_cmp b a ≡ Greater = atoms_total.antisymm b a ∙ ap ordering_reverse e in
        let clash : Greater ≡ Less = sym (ap (λ r. ordering_then r (path_cmp m (take n s ++ x ∷ []))) back) ∙ g in
        cc
    by Equal e f deeper =
        let same : a ≡ b = atoms_anti a b e in
        let back : atom_cmp b a ≡ Equal = atoms_total.antisymm b a ∙ ap ordering_reverse e in
        let d : Between n s x m = deeper f (sym (ap (λ r. ordering_then r (path_cmp m (take n s ++ x ∷ []))) back) ∙ g) in
        record { rest = d.rest; front = λ i. sym same i ∷ d.front i; below = d.below }
    by Greater e f deeper = absurd (f refl)

-- Of two prefixes of s with one atom after each, both after s, the longer one comes first, and of
-- two as long the one with the lesser atom.
pub fronts : (k n : ℕ) (s : Path) (x y : Atom) → path_cmp s (take k s ++ y ∷ []) ≡ Less → k ≤ n → n ≤ length s → (n ≡ k → atom_cmp x y ≡ Less)
    → path_cmp (take n s ++ x ∷ []) (take k s ++ y ∷ []) ≡ Less
fronts zero zero s x y l h g e = ap (λ r. ordering_then r Equal) (e refl)
fronts zero (suc n) [] x y l h g e = absurd (omega arith)
fronts zero (suc n) (a ∷ s) x y l h g e = ap (λ r. ordering_then r (path_cmp (take n s ++ x ∷ []) [])) (head_below a y s l)
fronts (suc k) zero s x y l h g e = absurd (omega arith)
fronts (suc k) (suc n) [] x y l h g e = absurd (omega arith)
fronts (suc k) (suc n) (a ∷ s) x y l h g e =
    let tie = tied_itself atoms_total a in
    ap (λ r. ordering_then r (path_cmp (take n s ++ x ∷ []) (take k s ++ y ∷ []))) tie
    ∙ fronts k n s x y (sym (ap (λ r. ordering_then r (path_cmp s (take k s ++ y ∷ []))) tie) ∙ l) (omega arith) (omega arith) (λ c. e (ap (λ i. suc i) c))
