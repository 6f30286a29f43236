-- Paths beyond a path: what comes later is beyond too, and only headers count.
use Rattle.std.proofs.Common.{◌≡◌, suc, ◌<◌, ◌≤◌, ◌⊎◌, Bool, true, false, cond, [], ◌∷◌, ◌++◌, take, Ordering, Less, Equal, Greater, sym, refl, ap, ◌∙◌, subst, arith, inl, inr, leb-true, leb-false}
use Rattle.std.specs.Ordering.{ordering_then, ordering_reverse}
use Rattle.std.specs.Cmp.{nat_cmp_is}
use Rattle.std.proofs.lemmas.Cmp.{tied_itself}
use Rattle.context_model.specs.Atoms.{Atom}
use Rattle.context_model.specs.Orders.{Path, atom_cmp, path_cmp}
use Rattle.context_model.specs.Paths.{is_header, header_count}
use Rattle.context_model.specs.Ended.{IsBelow, IsBeyond, AreHeaders}
use Rattle.context_model.proofs.OrderLaws.{atoms_total, atoms_anti, paths_total}

same_below : (x : Atom) (s q : Path) → IsBelow s q → IsBelow (x ∷ s) (x ∷ q)
same_below x s q (rest, e) = (rest, ap (λ v. x ∷ v) e)

-- a path from s on and up to one below s is below s
pub between_below : (s p rest : Path) → (path_cmp s p ≡ Greater → ⊥) → (path_cmp p (s ++ rest) ≡ Greater → ⊥) → IsBelow s p
between_below [] p rest f g = (p, refl)
between_below (x ∷ s) [] rest f g = absurd (f refl)
between_below (x ∷ s) (y ∷ p) rest f g = by (atom_cmp x y) refl f (λ h k. between_below s p rest h k)
  where
    by : (r : Ordering) → atom_cmp x y ≡ r → (ordering_then r (path_cmp s p) ≡ Greater → ⊥)
        → ((path_cmp s p ≡ Greater → ⊥) → (path_cmp p (s ++ rest) ≡ Greater → ⊥) → IsBelow s p) → IsBelow (x ∷ s) (y ∷ p)
    by Less e f deeper =
        let back : atom_cmp y x ≡ Greater = atoms_total.antisymm y x ∙ ap ordering_reverse e in
        absurd (g (ap (λ r. ordering_then r (path_cmp p (s ++ rest))) back))
    by Equal e f deeper =
        let same : x ≡ y = atoms_anti x y e in
        let back : atom_cmp y x ≡ Equal = atoms_total.antisymm y x ∙ ap ordering_reverse e in
        subst (λ v. IsBelow (x ∷ s) (v ∷ p)) same (same_below x s p (deeper f (λ h. g (ap (λ r. ordering_then r (path_cmp p (s ++ rest))) back ∙ h))))
    by Greater e f deeper = absurd (f refl)

less_apart : (p q : Path) → path_cmp p q ≡ Less → path_cmp p q ≡ Greater → ⊥
less_apart p q e f = let no_both : Less ≡ Greater = sym e ∙ f in cc

-- what comes after a path beyond s is beyond s
pub IsBeyond-later : (s p r : Path) → IsBeyond s p → path_cmp p r ≡ Less → IsBeyond s r
IsBeyond-later s p r b h = (
  paths_total.trans s p r b.0 h,
  λ (rest, e). b.1 (between_below s p rest (less_apart s p b.0) (less_apart p (s ++ rest) (subst (λ v. path_cmp p v ≡ Less) e h))),
)

-- ---- one atom at a time

pub beyond_none : (s : Path) → IsBeyond s [] → ⊥
beyond_none [] b = let h : Equal ≡ Less = b.0 in cc
beyond_none (x ∷ s) b = let h : Greater ≡ Less = b.0 in cc

pub beyond_all : (q : Path) → IsBeyond [] q → ⊥
beyond_all q b = b.1 (q, refl)

pub beyond_less : (x a : Atom) (s q : Path) → atom_cmp x a ≡ Less → IsBeyond (x ∷ s) (a ∷ q)
beyond_less x a s q e = (
  ap (λ r. ordering_then r (path_cmp s q)) e,
  λ (rest, f). let same : a ≡ x = cc in let tie : atom_cmp x a ≡ Equal = ap (atom_cmp x) same ∙ tied_itself atoms_total x in let clash : Less ≡ Equal = sym e ∙ tie in cc,
)

pub beyond_same : (x : Atom) (s q : Path) → IsBeyond s q → IsBeyond (x ∷ s) (x ∷ q)
beyond_same x s q b = (
  ap (λ r. ordering_then r (path_cmp s q)) (tied_itself atoms_total x) ∙ b.0,
  λ (rest, f). let tail : q ≡ s ++ rest = cc in b.1 (rest, tail),
)

pub beyond_cases : (x a : Atom) (s q : Path) → IsBeyond (x ∷ s) (a ∷ q) → (atom_cmp x a ≡ Less) ⊎ ((x ≡ a) × IsBeyond s q)
beyond_cases x a s q b = by (atom_cmp x a) refl b.0
  where
    by : (r : Ordering) → atom_cmp x a ≡ r → ordering_then r (path_cmp s q) ≡ Less → (atom_cmp x a ≡ Less) ⊎ ((x ≡ a) × IsBeyond s q)
    by Less e f = inl e
    by Equal e f =
        let same : x ≡ a = atoms_anti x a e in
        inr (same, (f, λ (rest, g). b.1 (rest, λ i. sym same i ∷ g i)))
    by Greater e f = cc

-- an atom that is no header comes before every header
pub header_greater : (x a : Atom) → is_header x ≡ true → is_header a ≡ false → atom_cmp x a ≡ Greater
header_greater [] a h e = cc
header_greater (b ∷ bytes) [] h e = refl
header_greater (b ∷ bytes) (c ∷ more) h e =
    let high : 128 ≤ b = leb-true 128 b h in
    let low : c < 128 = leb-false 128 c e in
    ap (λ r. ordering_then r (atom_cmp bytes more)) (sym (nat_cmp_is b c Greater (omega arith)))

-- ---- only the headers of a path count

abbrev pub headers_of : Path → Path
headers_of q = take (header_count q) q

module _ (a : Atom) (q : Path) where
  headers_cons : is_header a ≡ true → headers_of (a ∷ q) ≡ a ∷ headers_of q
  headers_cons e = ap (λ b. take (cond b (suc (header_count q)) 0) (a ∷ q)) e

  headers_none : is_header a ≡ false → headers_of (a ∷ q) ≡ []
  headers_none e = ap (λ b. take (cond b (suc (header_count q)) 0) (a ∷ q)) e

pub beyond_headers : (s q : Path) → AreHeaders s → IsBeyond s q → IsBeyond s (headers_of q)
beyond_headers s [] h b = b
beyond_headers [] (a ∷ q) h b = absurd (beyond_all (a ∷ q) b)
beyond_headers (x ∷ s) (a ∷ q) h b = by (is_header a) refl (beyond_cases x a s q b) (λ c. beyond_headers s q h.1 c)
  where
    by : (c : Bool) → is_header a ≡ c → (atom_cmp x a ≡ Less) ⊎ ((x ≡ a) × IsBeyond s q) → (IsBeyond s q → IsBeyond s (headers_of q)) → IsBeyond (x ∷ s) (headers_of (a ∷ q))
    by true e (inl l) deeper = subst (IsBeyond (x ∷ s)) (sym (headers_cons a q e)) (beyond_less x a s (headers_of q) l)
    by true e (inr p) deeper = subst (IsBeyond (x ∷ s)) (sym (headers_cons a q e)) (subst (λ v. IsBeyond (x ∷ s) (v ∷ headers_of q)) (p.0) (beyond_same x s (headers_of q) (deeper p.1)))
    by false e (inl l) deeper = let g : atom_cmp x a ≡ Greater = header_greater x a h.0 e in let clash : Less ≡ Greater = sym l ∙ g in cc
    by false e (inr p) deeper = let clash : true ≡ false = sym h.0 ∙ ap is_header p.0 ∙ e in cc

pub beyond_from_headers : (s q : Path) → AreHeaders s → IsBeyond s (headers_of q) → IsBeyond s q
beyond_from_headers s [] h b = b
beyond_from_headers [] (a ∷ q) h b = absurd (beyond_all (headers_of (a ∷ q)) b)
beyond_from_headers (x ∷ s) (a ∷ q) h b = by (is_header a) refl (λ c. beyond_from_headers s q h.1 c)
  where
    by : (c : Bool) → is_header a ≡ c → (IsBeyond s (headers_of q) → IsBeyond s q) → IsBeyond (x ∷ s) (a ∷ q)
    by true e deeper = elim (beyond_cases x a s (headers_of q) (subst (IsBeyond (x ∷ s)) (headers_cons a q e) b)) [
      | inl l ↦ beyond_less x a s q l
      | inr p ↦ subst (λ v. IsBeyond (x ∷ s) (v ∷ q)) (p.0) (beyond_same x s q (deeper p.1))
    ]
    by false e deeper = absurd (beyond_none (x ∷ s) (subst (IsBeyond (x ∷ s)) (headers_none a q e) b))
