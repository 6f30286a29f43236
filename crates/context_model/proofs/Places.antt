-- Paths, markers and prefixes by places, for loops over a list.
use Rattle.std.proofs.Common.{◌≡◌, ℕ, zero, suc, ◌+◌, ◌<◌, ◌≤◌, ◌⊎◌, ◌↔◌, List, [], ◌∷◌, length, take, slice_get, Some, sym, refl, ap, ◌∙◌, subst, arith, inl, inr, add-one}
use Rattle.std.proofs.lemmas.List.{length-take-le}
use Rattle.context_model.specs.Atoms.{Atom}
use Rattle.context_model.specs.Orders.{Path, IsIn}
use Rattle.context_model.specs.Paths.{path_after, paths_after, paths, last_path_after}
use Rattle.context_model.specs.Ended.{HasMarker, front_of, IsBeyond, IsEnded}

-- the path of the atom at a place is that after the atoms before it
pub last_path_after-more : (q : Path) (list : List Atom) (i : ℕ) (a : Atom) → slice_get list i ≡ Some a
    → last_path_after q (take (i + 1) list) ≡ path_after (last_path_after q (take i list)) a
last_path_after-more q list i a e = ap (λ n. last_path_after q (take n list)) (add-one i) ∙ by q list i e
  where
    by : (q : Path) (list : List Atom) (i : ℕ) → slice_get list i ≡ Some a → last_path_after q (take (suc i) list) ≡ path_after (last_path_after q (take i list)) a
    by q [] i e = cc
    by q (x ∷ list) zero e = let h : x ≡ a = cc in ap (path_after q) h
    by q (x ∷ list) (suc i) e = by (path_after q x) list i e

pub path_of_place : (q : Path) (list : List Atom) (i : ℕ) (a : Atom) → slice_get list i ≡ Some a → IsIn (path_after (last_path_after q (take i list)) a) (paths_after q list)
path_of_place q [] i a e = cc
path_of_place q (x ∷ list) zero a e = let h : a ≡ x = cc in inl (ap (path_after q) h)
path_of_place q (x ∷ list) (suc i) a e = inr (path_of_place (path_after q x) list i a e)

-- every path of a list is that of an atom at a place
pub record StandsThere (q : Path) (list : List Atom) (p : Path) : Type 0 where
  pub place : ℕ
  pub atom : Atom
  pub there : slice_get list place ≡ Some atom
  pub path_is : p ≡ path_after (last_path_after q (take place list)) atom

pub place_of : (q : Path) (list : List Atom) (p : Path) → IsIn p (paths_after q list) → StandsThere q list p
place_of q [] p i = absurd i
place_of q (x ∷ list) p (inl e) = record { place = zero; atom = x; there = refl; path_is = e }
place_of q (x ∷ list) p (inr i) =
    let s : StandsThere (path_after q x) list p = place_of (path_after q x) list p i in
    record { place = suc s.place; atom = s.atom; there = s.there; path_is = s.path_is }

-- ---- markers

pub marker_at : (list : List Atom) (i : ℕ) → slice_get list i ≡ Some [] → HasMarker list
marker_at [] i e = cc
marker_at (x ∷ list) zero e = let h : [] ≡ x = cc in inl h
marker_at (x ∷ list) (suc i) e = inr (marker_at list i e)

pub marker_place : (list : List Atom) → HasMarker list → (i : ℕ) × (slice_get list i ≡ Some [])
marker_place [] h = absurd h
marker_place (x ∷ list) (inl e) = (zero, ap Some (sym e))
marker_place (x ∷ list) (inr h) = let s : (i : ℕ) × (slice_get list i ≡ Some []) = marker_place list h in (suc s.0, s.1)

-- the atoms before a place where no marker is before it, and where one is or the list ends
pub front_of-take : (list : List Atom) (i : ℕ) → ((k : ℕ) → k < i → slice_get list k ≡ Some [] → ⊥) → (slice_get list i ≡ Some []) ⊎ (length list ≤ i) → front_of list ≡ take i list
front_of-take [] zero n e = refl
front_of-take [] (suc i) n e = refl
front_of-take (x ∷ list) zero n (inl e) = let h : x ≡ [] = cc in subst (λ v. front_of (v ∷ list) ≡ []) (sym h) refl
front_of-take (x ∷ list) zero n (inr l) = absurd (omega arith)
front_of-take ([] ∷ list) (suc i) n e = absurd (n zero (omega arith) refl)
front_of-take ((b ∷ bytes) ∷ list) (suc i) n e = ap (λ v. (b ∷ bytes) ∷ v) (front_of-take list i (λ k l h. n (suc k) (omega arith) h) (next e))
  where
    next : (slice_get list i ≡ Some []) ⊎ (length ((b ∷ bytes) ∷ list) ≤ suc i) → (slice_get list i ≡ Some []) ⊎ (length list ≤ i)
    next (inl e) = inl e
    next (inr l) = inr (omega arith)

-- ---- ended, from what a loop over the prefix knows

slice_get-take : (list : List Atom) (n i : ℕ) (a : Atom) → slice_get (take n list) i ≡ Some a → (i < n) × (slice_get list i ≡ Some a)
slice_get-take [] zero i a e = cc
slice_get-take [] (suc n) i a e = cc
slice_get-take (x ∷ list) zero i a e = cc
slice_get-take (x ∷ list) (suc n) zero a e = (omega arith, e)
slice_get-take (x ∷ list) (suc n) (suc i) a e = let s : (i < n) × (slice_get list i ≡ Some a) = slice_get-take list n i a e in (omega (arith, s.0), s.1)

take-slice_get : (list : List Atom) (n i : ℕ) (a : Atom) → i < n → slice_get list i ≡ Some a → slice_get (take n list) i ≡ Some a
take-slice_get list zero i a l e = absurd (omega arith)
take-slice_get [] (suc n) i a l e = cc
take-slice_get (x ∷ list) (suc n) zero a l e = e
take-slice_get (x ∷ list) (suc n) (suc i) a l e = take-slice_get list n i a (omega arith) e

take_front : (list : List Atom) (n i : ℕ) → i < n → take i (take n list) ≡ take i list
take_front list n zero l = refl
take_front [] zero (suc i) l = refl
take_front [] (suc n) (suc i) l = refl
take_front (x ∷ list) zero (suc i) l = absurd (omega arith)
take_front (x ∷ list) (suc n) (suc i) l = ap (λ v. x ∷ v) (take_front list n i (omega arith))

-- an atom of the prefix whose path is beyond s
pub IsEnded-at : (list : List Atom) (s : Path) (n i : ℕ) (a : Atom) → front_of list ≡ take n list → i < n → slice_get list i ≡ Some a
    → IsBeyond s (path_after (last_path_after [] (take i list)) a) → IsEnded list s
IsEnded-at list s n i a f l e b =
    inr (
      path_after (last_path_after [] (take i list)) a,
      subst (λ v. IsIn (path_after (last_path_after [] (take i list)) a) (paths v)) (sym f)
          (subst (λ v. IsIn (path_after (last_path_after [] v) a) (paths (take n list))) (take_front list n i l) (path_of_place [] (take n list) i a (take-slice_get list n i a l e))),
      b,
    )

-- a marker, and no such atom before it
pub IsEnded-nowhere : (list : List Atom) (s : Path) (n : ℕ) → HasMarker list → front_of list ≡ take n list
    → ((i : ℕ) (a : Atom) → i < n → slice_get list i ≡ Some a → IsBeyond s (path_after (last_path_after [] (take i list)) a) → ⊥) → IsEnded list s → ⊥
IsEnded-nowhere list s n m f u (inl none) = none m
IsEnded-nowhere list s n m f u (inr (p, i, b)) =
    let t : StandsThere [] (take n list) p = place_of [] (take n list) p (subst (λ v. IsIn p (paths v)) f i) in
    let g : (t.place < n) × (slice_get list t.place ≡ Some t.atom) = slice_get-take list n t.place t.atom t.there in
    u t.place t.atom g.0 g.1 (subst (λ v. IsBeyond s (path_after (last_path_after [] v) t.atom)) (take_front list n t.place g.0) (subst (IsBeyond s) t.path_is b))

-- ---- how many atoms the prefix has

-- a marker is in a list exactly where its prefix is shorter
pub front_of-marker : (list : List Atom) → (length (front_of list) < length list) ↔ HasMarker list
front_of-marker list = (to list, from list)
  where
    to : (list : List Atom) → length (front_of list) < length list → HasMarker list
    to [] h = absurd (omega arith)
    to ([] ∷ list) h = inl refl
    to ((b ∷ bytes) ∷ list) h = inr (to list (omega arith))

    from : (list : List Atom) → HasMarker list → length (front_of list) < length list
    from [] h = absurd h
    from ([] ∷ list) h = omega arith
    from ((b ∷ bytes) ∷ list) (inl e) = cc
    from ((b ∷ bytes) ∷ list) (inr h) = let l : length (front_of list) < length list = from list h in omega arith

-- how long the prefix is, from what a loop knows
pub length-front_of : (list : List Atom) (i : ℕ) → i ≤ length list → ((k : ℕ) → k < i → slice_get list k ≡ Some [] → ⊥) → (slice_get list i ≡ Some []) ⊎ (length list ≤ i) → i ≡ length (front_of list)
length-front_of list i l n e = sym (ap length (front_of-take list i n e) ∙ length-take-le i list l)
