-- What is at each place of a path, and how the next path compares, by one atom of the path before.
use Rattle.std.proofs.Common.{◌≡◌, ℕ, zero, suc, ◌+◌, ◌<◌, ◌≤◌, ◌⊎◌, ◌↔◌, Bool, true, false, cond, nat_le, eqb, ◌&&◌, List, [], ◌∷◌, ◌++◌, length, take, slice_get, Option, Some, None, Ordering, Less, Equal, Greater, sym, refl, ap, ◌∙◌, subst, arith, inl, inr, le_refl, eq-eqb, ne_eqb}
use Rattle.std.specs.Ordering.{ordering_then}
use Rattle.std.proofs.lemmas.Bool.{cases_eq}
use Rattle.std.proofs.lemmas.Cmp.{tied_itself}
use Rattle.context_model.specs.Atoms.{Atom}
use Rattle.context_model.specs.Orders.{Path, atom_cmp, path_cmp}
use Rattle.context_model.specs.Paths.{is_header, level, header_count, depth_after, path_after, last_path_after}
use Rattle.context_model.specs.Nearest.{nearest_from, last_header_from, levels_open, HasNearestHeaders, IsNearestPlace}
use Rattle.context_model.proofs.OrderLaws.{atoms_total}
use Rattle.context_model.proofs.Following.{Fits, Follows, header_count-length, next_bound, IsWellFormed-follows}

-- ---- some of a path, and one atom after it

pub place_below : (n k : ℕ) (q : Path) (a : Atom) → k < n → n ≤ length q → slice_get (take n q ++ a ∷ []) k ≡ slice_get q k
place_below zero k q a h l = absurd (omega arith)
place_below (suc n) k [] a h l = absurd (omega arith)
place_below (suc n) zero (x ∷ q) a h l = refl
place_below (suc n) (suc k) (x ∷ q) a h l = place_below n k q a (omega arith) (omega arith)

pub place_at : (n : ℕ) (q : Path) (a : Atom) → n ≤ length q → slice_get (take n q ++ a ∷ []) n ≡ Some a
place_at zero q a l = refl
place_at (suc n) [] a l = absurd (omega arith)
place_at (suc n) (x ∷ q) a l = place_at n q a (omega arith)

pub length_at : (n : ℕ) (q : Path) (a : Atom) → n ≤ length q → length (take n q ++ a ∷ []) ≡ n + 1
length_at zero q a l = refl
length_at (suc n) [] a l = absurd (omega arith)
length_at (suc n) (x ∷ q) a l = let e : length (take n q ++ a ∷ []) ≡ n + 1 = length_at n q a (omega arith) in omega arith

-- the next path comes later where the path before ends
pub later_end : (n : ℕ) (q : Path) (a : Atom) → length q ≡ n → path_cmp q (take n q ++ a ∷ []) ≡ Less
later_end zero [] a e = refl
later_end zero (x ∷ q) a e = absurd (omega arith)
later_end (suc n) [] a e = absurd (omega arith)
later_end (suc n) (x ∷ q) a e = ap (λ r. ordering_then r (path_cmp q (take n q ++ a ∷ []))) (tied_itself atoms_total x) ∙ later_end n q a (omega arith)

-- and elsewhere exactly where the atom comes later than the one in its place
pub later_place : (n : ℕ) (q : Path) (a x : Atom) → slice_get q n ≡ Some x → (path_cmp q (take n q ++ a ∷ []) ≡ Less) ↔ (atom_cmp x a ≡ Less)
later_place n [] a x e = cc
later_place zero (y ∷ q) a x e = let h : y ≡ x = cc in subst (λ v. (path_cmp (y ∷ q) (a ∷ []) ≡ Less) ↔ (atom_cmp v a ≡ Less)) h (here (atom_cmp y a))
  where
    behind : (q : Path) → path_cmp q [] ≡ Less → ⊥
    behind [] h = cc
    behind (z ∷ q) h = cc

    here : (r : Ordering) → (ordering_then r (path_cmp q []) ≡ Less) ↔ (r ≡ Less)
    here Less = ((λ h. refl), λ h. refl)
    here Equal = ((λ h. absurd (behind q h)), λ h. cc)
    here Greater = ((λ h. h), λ h. h)
later_place (suc n) (y ∷ q) a x e =
    subst (λ r. (ordering_then r (path_cmp q (take n q ++ a ∷ [])) ≡ Less) ↔ (atom_cmp x a ≡ Less)) (sym (tied_itself atoms_total y)) (later_place n q a x e)

-- ---- the next path

pub depth-length : (q : Path) (a : Atom) → (is_header a ≡ true → level a ≤ header_count q) → depth_after q a ≤ length q
depth-length q [] f = le_refl (length q)
depth-length q (b ∷ bytes) f = by (nat_le 128 b) refl
  where
    by : (h : Bool) → nat_le 128 b ≡ h → cond h (level (b ∷ bytes)) (header_count q) ≤ length q
    by true e = let l : header_count q ≤ length q = header_count-length q in let m : level (b ∷ bytes) ≤ header_count q = f e in omega arith
    by false e = header_count-length q

-- an atom that is no header leaves the headers in their places
pub keeps_headers : (q : Path) (a : Atom) (n : ℕ) → is_header a ≡ false → n < header_count q → slice_get (path_after q a) n ≡ slice_get q n
keeps_headers q [] n e h = place_below (length q) n q [] (let l : header_count q ≤ length q = header_count-length q in omega arith) (le_refl (length q))
keeps_headers q (b ∷ bytes) n e h =
    ap (λ v. slice_get (take (cond v (level (b ∷ bytes)) (header_count q)) q ++ (b ∷ bytes) ∷ []) n) e ∙ place_below (header_count q) n q (b ∷ bytes) h (header_count-length q)

pub header_path : (q : Path) (a : Atom) → is_header a ≡ true → path_after q a ≡ take (level a) q ++ a ∷ []
header_path q [] e = cc
header_path q (b ∷ bytes) e = ap (λ v. take (cond v (level (b ∷ bytes)) (header_count q)) q ++ (b ∷ bytes) ∷ []) e

-- ---- the header of each level is the nearest one

module _ (n : ℕ) where
  step : (q : Path) (a : Atom) (last : Option Atom) → Fits q a → (n < header_count q → slice_get q n ≡ last)
      → n < header_count (path_after q a) → slice_get (path_after q a) n ≡ cond (is_header a && eqb (level a) n) (Some a) last
  step q a last f known h = by (is_header a) refl
    where
      by : (b : Bool) → is_header a ≡ b → slice_get (path_after q a) n ≡ cond (b && eqb (level a) n) (Some a) last
      by true e =
          let bound : header_count (path_after q a) ≡ level a + 1 = next_bound q a f.level ∙ ap (λ v. cond v (level a + 1) (header_count q)) e in
          let most : level a ≤ header_count q = f.level e in
          let long : header_count q ≤ length q = header_count-length q in
          elim (cases_eq (level a) n) [
            | inl same ↦ ap (λ v. slice_get v n) (header_path q a e) ∙ ap (slice_get (take (level a) q ++ a ∷ [])) (sym same) ∙ place_at (level a) q a (omega arith)
                ∙ ap (λ v. cond v (Some a) last) (sym (eq-eqb (level a) n same))
            | inr other ↦ ap (λ v. slice_get v n) (header_path q a e) ∙ place_below (level a) n q a (omega arith) (omega arith) ∙ known (omega arith)
                ∙ ap (λ v. cond v (Some a) last) (sym (ne_eqb (level a) n other))
          ]
      by false e =
          let bound : header_count (path_after q a) ≡ header_count q = next_bound q a f.level ∙ ap (λ v. cond v (level a + 1) (header_count q)) e in
          keeps_headers q a n e (omega arith) ∙ known (omega arith)

  along : (q : Path) (list : List Atom) (last : Option Atom) → Follows q list → (n < header_count q → slice_get q n ≡ last)
      → n < header_count (last_path_after q list) → slice_get (last_path_after q list) n ≡ nearest_from last n list
  along q [] last f known h = known h
  along q (a ∷ list) last f known h = along (path_after q a) list (cond (is_header a && eqb (level a) n) (Some a) last) f.1 (step q a last f.0 known) h

-- There are as many headers as levels open after the last one.
count_along : (q : Path) (list : List Atom) (last : Option Atom) → Follows q list → header_count q ≡ levels_open last → header_count (last_path_after q list) ≡ levels_open (last_header_from last list)
count_along q [] last f known = known
count_along q (a ∷ list) last f known = count_along (path_after q a) list (cond (is_header a) (Some a) last) f.1 (next_bound q a f.0.level ∙ by (is_header a))
  where
    by : (b : Bool) → cond b (level a + 1) (header_count q) ≡ levels_open (cond b (Some a) last)
    by true = refl
    by false = known

pub has_nearest_headers : HasNearestHeaders
has_nearest_headers = record {
  number = λ list w. count_along [] list None (IsWellFormed-follows list w) refl;
  each = λ list n w h. along n [] list None (IsWellFormed-follows list w) (λ l. absurd (omega arith)) h;
}

-- ---- places of nearest headers

-- another atom leaves the nearest place where it is
pub IsNearestPlace-later : (list : List Atom) (at n place : ℕ) (a : Atom) → IsNearestPlace list at n place → slice_get list at ≡ Some a → (is_header a ≡ true → level a ≡ n → ⊥) → IsNearestPlace list (at + 1) n place
IsNearestPlace-later list at n place a f e u = record {
  before = omega (arith, f.before);
  atom = f.atom;
  there = f.there;
  header = f.header;
  level_is = f.level_is;
  nearest_one = λ i other b l g h k. by i other b l g h k (cases_eq i at);
}
  where
    by : (i : ℕ) (other : Atom) → place < i → i < at + 1 → slice_get list i ≡ Some other → is_header other ≡ true → level other ≡ n → (i ≡ at) ⊎ (i ≡ at → ⊥) → ⊥
    by i other b l g h k (inl same) =
        let one : Some a ≡ Some other = sym e ∙ ap (slice_get list) (sym same) ∙ g in
        let atoms : a ≡ other = cc in
        u (ap is_header atoms ∙ h) (ap level atoms ∙ k)
    by i other b l g h k (inr apart) = f.nearest_one i other b (omega arith) g h k

-- a header of the level is itself the nearest
pub IsNearestPlace-here : (list : List Atom) (at : ℕ) (a : Atom) → slice_get list at ≡ Some a → is_header a ≡ true → IsNearestPlace list (at + 1) (level a) at
IsNearestPlace-here list at a e h = record {
  before = omega arith;
  atom = a;
  there = e;
  header = h;
  level_is = refl;
  nearest_one = λ i other b l g k m. absurd (omega arith);
}
