-- The bytes after a path in a list of paths, as a list.
use Rattle.std.proofs.Common.{◌≡◌, ◌⊎◌, inl, inr, ℕ, ◌==◌, if◌then◌else◌, Bool, true, false, eqb, List, [], ◌∷◌, ◌++◌, flat_map, Option, Some, None, Ordering, Less, Equal, Greater, refl, sym, ap, ◌∙◌, subst, eqb-true, eq-eqb}
use Rattle.std.proofs.lemmas.Cmp.{tied_itself}
use Rattle.context_model.specs.Orders.{Path, atom_cmp, IsIn, by_order}
use Rattle.context_model.proofs.OrderLaws.{atoms_total, atoms_anti}

-- What is left of a path after q, where it begins with q.
abbrev pub behind_path : Path → Path → Option Path
behind_path [] p = Some p
behind_path (x ∷ q) [] = None
behind_path (x ∷ q) (y ∷ p) = by_order (atom_cmp x y) None (behind_path q p) None

-- The bytes after c, where one atom is left that begins with c.
abbrev pub bytes_in : ℕ → Option Path → List (List ℕ)
bytes_in c None = []
bytes_in c (Some []) = []
bytes_in c (Some ([] ∷ p)) = []
bytes_in c (Some ((b ∷ bytes) ∷ [])) = if b == c then bytes ∷ [] else []
bytes_in c (Some ((b ∷ bytes) ∷ a ∷ p)) = []

-- The bytes of all atoms after q that begin with c.
abbrev pub bytes_at : ℕ → Path → List Path → List (List ℕ)
bytes_at c q ps = flat_map (λ p. bytes_in c (behind_path q p)) ps

behind_own : (q r : Path) → behind_path q (q ++ r) ≡ Some r
behind_own [] r = refl
behind_own (x ∷ q) r = ap (λ o. by_order o None (behind_path q (q ++ r)) None) (tied_itself atoms_total x) ∙ behind_own q r

begins_so : (q p r : Path) → behind_path q p ≡ Some r → p ≡ q ++ r
begins_so [] p r e = cc
begins_so (x ∷ q) [] r e = absurd (cc e)
begins_so (x ∷ q) (y ∷ p) r e = by (atom_cmp x y) refl (λ h. begins_so q p r h) e
  where
    by : (o : Ordering) → atom_cmp x y ≡ o → (behind_path q p ≡ Some r → p ≡ q ++ r) → by_order o None (behind_path q p) None ≡ Some r → y ∷ p ≡ x ∷ q ++ r
    by Less h rest f = absurd (cc f)
    by Equal h rest f = λ i. sym (atoms_anti x y h) i ∷ rest f i
    by Greater h rest f = absurd (cc f)

in_one : (c : ℕ) (o : Option Path) (bytes : List ℕ) → IsIn bytes (bytes_in c o) → o ≡ Some ((c ∷ bytes) ∷ [])
in_one c None bytes i = absurd i
in_one c (Some []) bytes i = absurd i
in_one c (Some ([] ∷ p)) bytes i = absurd i
in_one c (Some ((b ∷ more) ∷ [])) bytes i = by (eqb b c) refl i
  where
    by : (t : Bool) → eqb b c ≡ t → IsIn bytes (if t then more ∷ [] else []) → Some ((b ∷ more) ∷ []) ≡ Some ((c ∷ bytes) ∷ [])
    by true e (inl same) = λ i. Some ((eqb-true b c e i ∷ sym same i) ∷ [])
    by true e (inr none) = elim none [ ]
    by false e none = elim none [ ]
in_one c (Some ((b ∷ more) ∷ a ∷ p)) bytes i = absurd i

one_there : (c : ℕ) (bytes : List ℕ) → IsIn bytes (bytes_in c (Some ((c ∷ bytes) ∷ [])))
one_there c bytes = subst (λ t. IsIn bytes (if t then bytes ∷ [] else [])) (sym (eq-eqb c c refl)) (inl refl)

module _ {K : Type 0} where
  pub in_append_first : (x : K) (xs ys : List K) → IsIn x xs → IsIn x (xs ++ ys)
  in_append_first x [] ys none = elim none [ ]
  in_append_first x (z ∷ xs) ys (inl e) = inl e
  in_append_first x (z ∷ xs) ys (inr i) = inr (in_append_first x xs ys i)

  pub in_append_second : (x : K) (xs ys : List K) → IsIn x ys → IsIn x (xs ++ ys)
  in_append_second x [] ys i = i
  in_append_second x (z ∷ xs) ys i = inr (in_append_second x xs ys i)

  pub in_append : (x : K) (xs ys : List K) → IsIn x (xs ++ ys) → IsIn x xs ⊎ IsIn x ys
  in_append x [] ys i = inr i
  in_append x (z ∷ xs) ys (inl e) = inl (inl e)
  in_append x (z ∷ xs) ys (inr i) = elim (in_append x xs ys i) [ inl j ↦ inl (inr j) | inr j ↦ inr j ]

module _ (c : ℕ) (q : Path) where
  -- The bytes are those of the paths of this form.
  pub bytes_at-there : (ps : List Path) (bytes : List ℕ) → IsIn bytes (bytes_at c q ps) → IsIn (q ++ (c ∷ bytes) ∷ []) ps
  bytes_at-there [] bytes none = elim none [ ]
  bytes_at-there (p ∷ ps) bytes i = by (in_append bytes (bytes_in c (behind_path q p)) (bytes_at c q ps) i) (λ j. bytes_at-there ps bytes j)
    where
      by : IsIn bytes (bytes_in c (behind_path q p)) ⊎ IsIn bytes (bytes_at c q ps) → (IsIn bytes (bytes_at c q ps) → IsIn (q ++ (c ∷ bytes) ∷ []) ps) → IsIn (q ++ (c ∷ bytes) ∷ []) (p ∷ ps)
      by (inl j) rest = inl (sym (begins_so q p ((c ∷ bytes) ∷ []) (in_one c (behind_path q p) bytes j)))
      by (inr j) rest = inr (rest j)

  pub bytes_at-back : (ps : List Path) (bytes : List ℕ) → IsIn (q ++ (c ∷ bytes) ∷ []) ps → IsIn bytes (bytes_at c q ps)
  bytes_at-back [] bytes none = elim none [ ]
  bytes_at-back (p ∷ ps) bytes (inl e) =
      let own : behind_path q p ≡ Some ((c ∷ bytes) ∷ []) = ap (behind_path q) (sym e) ∙ behind_own q ((c ∷ bytes) ∷ []) in
      in_append_first bytes (bytes_in c (behind_path q p)) (bytes_at c q ps) (subst (λ o. IsIn bytes (bytes_in c o)) (sym own) (one_there c bytes))
  bytes_at-back (p ∷ ps) bytes (inr i) = in_append_second bytes (bytes_in c (behind_path q p)) (bytes_at c q ps) (bytes_at-back ps bytes i)
