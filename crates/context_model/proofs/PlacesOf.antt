-- The paths of a list by the places of its atoms, and prefixes of paths.
use Rattle.std.proofs.Common.{◌≡◌, ℕ, zero, suc, ◌<◌, ◌⊎◌, List, [], ◌∷◌, ◌++◌, length, take, Less, sym, refl, ap, ◌∙◌, subst, arith, inl, inr, add-one, append_assoc}
use Rattle.std.proofs.lemmas.List.{take_more}
use Rattle.std.proofs.lemmas.Option.{get_or_from_slice_get, slice_get_within}
use Rattle.context_model.specs.Atoms.{Atom}
use Rattle.context_model.specs.Orders.{Path, path_cmp, IsIn, Rises}
use Rattle.context_model.specs.Paths.{depth_after, path_after, paths_after, paths, last_path_after, atom_at, path_before, path_at}
use Rattle.context_model.specs.WellFormed.{IsWellFormed}
use Rattle.context_model.proofs.OrderLaws.{paths_total}
use Rattle.context_model.proofs.Following.{last_path_after-append}
use Rattle.context_model.proofs.Rising.{Rises-before, Rises-tail}
use Rattle.context_model.proofs.Places.{StandsThere, place_of}

-- ---- the path at a place

-- It is the one after the path before it.
pub path_at-next : (list : List Atom) (k : ℕ) → k < length list → path_at list k ≡ path_after (path_before list k) (atom_at list k)
path_at-next list k within = ap (last_path_after []) (take_more list k [] within) ∙ last_path_after-append [] (take k list) (atom_at list k ∷ [])

there_after : (q : Path) (list : List Atom) (k : ℕ) → k < length list → IsIn (last_path_after q (take (suc k) list)) (paths_after q list)
there_after q [] k within = absurd (omega arith)
there_after q (a ∷ list) zero within = inl refl
there_after q (a ∷ list) (suc k) within = inr (there_after (path_after q a) list k (omega arith))

-- It is a path of the list.
pub path_there : (list : List Atom) (k : ℕ) → k < length list → IsIn (path_at list k) (paths list)
path_there list k within = subst (λ n. IsIn (path_before list n) (paths list)) (sym (add-one k)) (there_after [] list k within)

-- A place of the list, and its path.
pub record IsAtPlace (list : List Atom) (p : Path) : Type 0 where
  pub place : ℕ
  pub within : place < length list
  pub path : path_at list place ≡ p

-- Each path of the list is that of a place.
pub place_of_path : (list : List Atom) (p : Path) → IsIn p (paths list) → IsAtPlace list p
place_of_path list p i =
    let s : StandsThere [] list p = place_of [] list p i in
    let within = slice_get_within list s.place s.atom s.there in
    let same = get_or_from_slice_get list s.place s.atom [] s.there in
    record { place = s.place; within = within; path = path_at-next list s.place within ∙ ap (path_after (path_before list s.place)) same ∙ sym s.path_is }

rise_after : (q : Path) (list : List Atom) (i j : ℕ) → Rises path_cmp (paths_after q list) → i < j → j < length list
    → path_cmp (last_path_after q (take (suc i) list)) (last_path_after q (take (suc j) list)) ≡ Less
rise_after q [] i j rises less within = absurd (omega arith)
rise_after q (a ∷ list) i zero rises less within = absurd (omega arith)
rise_after q (a ∷ list) zero (suc j) rises less within =
    Rises-before path_cmp paths_total (path_after q a) (paths_after (path_after q a) list) rises (last_path_after (path_after q a) (take (suc j) list)) (there_after (path_after q a) list j (omega arith))
rise_after q (a ∷ list) (suc i) (suc j) rises less within =
    rise_after (path_after q a) list i j (Rises-tail path_cmp (path_after q a) (paths_after (path_after q a) list) rises) (omega arith) (omega arith)

-- Of two places of a well-formed list the later one has the later path.
pub paths_rise : (list : List Atom) → IsWellFormed list → (i j : ℕ) → i < j → j < length list → path_cmp (path_at list i) (path_at list j) ≡ Less
paths_rise list w i j less within =
    subst (λ n. path_cmp (path_before list n) (path_at list j) ≡ Less) (sym (add-one i))
    (subst (λ n. path_cmp (path_before list (suc i)) (path_before list n) ≡ Less) (sym (add-one j)) (rise_after [] list i j w.order less within))

same_last : (xs ys : Path) (a b : Atom) → xs ++ a ∷ [] ≡ ys ++ b ∷ [] → a ≡ b
same_last [] [] a b e = cc
same_last [] (y ∷ []) a b e = cc
same_last [] (y ∷ z ∷ ys) a b e = cc
same_last (x ∷ []) [] a b e = cc
same_last (x ∷ z ∷ xs) [] a b e = cc
same_last (x ∷ xs) (y ∷ ys) a b e = same_last xs ys a b (let h : xs ++ a ∷ [] ≡ ys ++ b ∷ [] = cc in h)

-- A path ends with the atom that it is of.
pub last_is : (list : List Atom) (k : ℕ) (p : Path) (a : Atom) → k < length list → path_at list k ≡ p ++ a ∷ [] → atom_at list k ≡ a
last_is list k p a within e =
    same_last (take (depth_after (path_before list k) (atom_at list k)) (path_before list k)) p (atom_at list k) a (sym (path_at-next list k within) ∙ e)

-- ---- prefixes of paths

-- A prefix of the next path is that path, or a prefix of the one before.
front_of_next : (n : ℕ) (q s r : Path) (a : Atom) → take n q ++ a ∷ [] ≡ s ++ r → (s ≡ take n q ++ a ∷ []) ⊎ ((t : Path) × (q ≡ s ++ t))
front_of_next n q [] r a e = inr (q, refl)
front_of_next zero q (x ∷ []) r a e = let h : x ≡ a = cc in inl (ap (λ v. v ∷ []) h)
front_of_next zero q (x ∷ y ∷ s) r a e = cc
front_of_next (suc n) [] (x ∷ []) r a e = let h : x ≡ a = cc in inl (ap (λ v. v ∷ []) h)
front_of_next (suc n) [] (x ∷ y ∷ s) r a e = cc
front_of_next (suc n) (z ∷ q) (x ∷ s) r a e =
    let h : x ≡ z = cc in
    let t : take n q ++ a ∷ [] ≡ s ++ r = cc in
    elim (front_of_next n q s r a t) [
      | inl same ↦ inl (λ i. h i ∷ same i)
      | inr (u, f) ↦ inr (u, λ i. sym h i ∷ f i)
    ]

front_after : (q : Path) (list : List Atom) (p s r : Path) → IsIn p (paths_after q list) → p ≡ s ++ r → IsIn s (paths_after q list) ⊎ ((t : Path) × (q ≡ s ++ t))
front_after q [] p s r none e = absurd none
front_after q (a ∷ list) p s r (inl is) e = elim (front_of_next (depth_after q a) q s r a (sym is ∙ e)) [
  | inl same ↦ inl (inl same)
  | inr front ↦ inr front
]
front_after q (a ∷ list) p s r (inr later) e = elim (front_after (path_after q a) list p s r later e) [
  | inl i ↦ inl (inr i)
  | inr (t, f) ↦ elim (front_of_next (depth_after q a) q s t a f) [
    | inl same ↦ inl (inl same)
    | inr front ↦ inr front
  ]
]

-- Each prefix of a path of a list is a path of it, except the empty one.
pub front_is_path : (list : List Atom) (q r : Path) (h : Atom) → IsIn (q ++ h ∷ r) (paths list) → IsIn (q ++ h ∷ []) (paths list)
front_is_path list q r h i = by (front_after [] list (q ++ h ∷ r) (q ++ h ∷ []) r i (sym (append_assoc q (h ∷ []) r)))
  where
    none : (q t : Path) → [] ≡ (q ++ h ∷ []) ++ t → ⊥
    none [] t e = cc
    none (x ∷ q) t e = cc

    by : IsIn (q ++ h ∷ []) (paths list) ⊎ ((t : Path) × ([] ≡ (q ++ h ∷ []) ++ t)) → IsIn (q ++ h ∷ []) (paths list)
    by (inl i) = i
    by (inr (t, e)) = absurd (none q t e)
