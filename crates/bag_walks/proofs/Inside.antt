-- Along a part of a list the headers of a path stay open, and what is there has paths below it.
use Rattle.std.proofs.Common.{◌≡◌, ℕ, zero, suc, ◌+◌, ◌-◌, ◌<◌, ◌≤◌, Bool, true, false, cond, nat_le, List, [], ◌∷◌, ◌++◌, length, take, sym, refl, ap, ◌∙◌, subst, arith, le_refl}
use Rattle.std.proofs.lemmas.List.{take_all, take-take, take-append-le, length-take-le}
use Rattle.context_model.specs.Atoms.{Atom}
use Rattle.context_model.specs.Orders.{Path}
use Rattle.context_model.specs.Paths.{is_header, level, header_count, depth_after, path_after, atom_at, path_before, path_at}
use Rattle.context_model.specs.Ended.{AreHeaders}
use Rattle.context_model.specs.WellFormed.{IsWellFormed}
use Rattle.context_model.proofs.Following.{Fits, Follows-back, IsWellFormed-follows, IsWellFormed-take, next_bound, header_count-length}
use Rattle.context_model.proofs.PathPlaces.{depth-length, header_path}
use Rattle.context_model.proofs.PlacesOf.{path_at-next}
use Rattle.std.proofs.lemmas.List.{take_more}
use Rattle.bag_walks.specs.Parts.{IsBehind, HasNoHeader, StaysBelow, IsInside}

-- ---- an atom of a well-formed list, at its place

-- It may follow the one before it.
pub fits_there : (list : List Atom) (k : ℕ) → IsWellFormed list → k < length list → Fits (path_before list k) (atom_at list k)
fits_there list k w within =
    let front : IsWellFormed (take k list ++ atom_at list k ∷ []) = subst IsWellFormed (take_more list k [] within) (IsWellFormed-take (k + 1) list w) in
    (Follows-back [] (take k list) (atom_at list k ∷ []) (IsWellFormed-follows (take k list ++ atom_at list k ∷ []) front)).0

-- A header opens its level, and every other atom leaves the open headers as they are.
pub count_next : (list : List Atom) (k : ℕ) → IsWellFormed list → k < length list
    → header_count (path_at list k) ≡ cond (is_header (atom_at list k)) (level (atom_at list k) + 1) (header_count (path_before list k))
count_next list k w within = ap header_count (path_at-next list k within) ∙ next_bound (path_before list k) (atom_at list k) (fits_there list k w within).level

-- ---- prefixes of the next path

-- The first n atoms of a path are in the next one, where it keeps that many.
front_kept : (n : ℕ) (q : Path) (a : Atom) → n ≤ depth_after q a → depth_after q a ≤ length q → take n (path_after q a) ≡ take n q
front_kept n q a l within =
    take-append-le n (take (depth_after q a) q) (a ∷ []) (let e = length-take-le (depth_after q a) q within in omega (arith, e))
    ∙ take-take n (depth_after q a) q l

-- The next path keeps n atoms of one with n headers, where a header has at least level n.
depth_deep : (n : ℕ) (q : Path) (a : Atom) → n ≤ header_count q → (is_header a ≡ true → n ≤ level a) → n ≤ depth_after q a
depth_deep n q [] l f = omega (arith, header_count-length q)
depth_deep n q (b ∷ bytes) l f = by (nat_le 128 b) refl
  where
    by : (h : Bool) → nat_le 128 b ≡ h → n ≤ cond h (level (b ∷ bytes)) (header_count q)
    by true e = f e
    by false e = l

-- ---- along a part

-- The headers of a path of headers are all of it.
pub count_headers : (q : Path) → AreHeaders q → header_count q ≡ length q
count_headers [] h = refl
count_headers (a ∷ q) h = ap (λ b. cond b (suc (header_count q)) 0) h.0 ∙ ap suc (count_headers q h.1)

pub inside_first : (list : List Atom) (q : Path) (from : ℕ) → IsBehind list q from → IsInside list q from
inside_first list q from behind = record {
  front = ap (take (length q)) behind.path ∙ take_all (length q) q (le_refl (length q));
  deep = let e = ap header_count behind.path ∙ count_headers q behind.headers in omega (arith, e);
}

pub inside_next : (list : List Atom) (q : Path) (k : ℕ) → IsWellFormed list → k < length list → (is_header (atom_at list k) ≡ true → length q ≤ level (atom_at list k))
    → IsInside list q k → IsInside list q (k + 1)
inside_next list q k w within deeper inside =
    let p = path_before list k in
    let a = atom_at list k in
    let kept : length q ≤ depth_after p a = depth_deep (length q) p a inside.deep deeper in
    let most : depth_after p a ≤ length p = depth-length p a (fits_there list k w within).level in
    record {
      front = ap (take (length q)) (path_at-next list k within) ∙ front_kept (length q) p a kept most ∙ inside.front;
      deep = by (is_header a) refl (count_next list k w within);
    }
  where
    by : (b : Bool) → is_header (atom_at list k) ≡ b
        → header_count (path_at list k) ≡ cond b (level (atom_at list k) + 1) (header_count (path_before list k)) → length q ≤ header_count (path_at list k)
    by true e count = let l = deeper e in omega (arith, l, count)
    by false e count = omega (arith, inside.deep, count)

inside_steps : (list : List Atom) (q : Path) (from to : ℕ) → IsBehind list q from → StaysBelow list (length q) from to → (d : ℕ) → from + d ≤ to → IsInside list q (from + d)
inside_steps list q from to behind stays zero l = subst (IsInside list q) (let e : from ≡ from + 0 = omega arith in e) (inside_first list q from behind)
inside_steps list q from to behind stays (suc d) l =
    subst (IsInside list q) (let e : from + d + 1 ≡ from + suc d = omega arith in e)
    (inside_next list q (from + d) behind.well_formed (omega (arith, stays.within)) (stays.deep (from + d) (omega arith) (omega arith))
    (inside_steps list q from to behind stays d (omega arith)))

-- Up to the end of a part below q its headers are open.
pub inside_along : (list : List Atom) (q : Path) (from to : ℕ) → IsBehind list q from → StaysBelow list (length q) from to → (k : ℕ) → from ≤ k → k ≤ to → IsInside list q k
inside_along list q from to behind stays k l m =
    subst (IsInside list q) (let e : from + (k - from) ≡ k = omega arith in e) (inside_steps list q from to behind stays (k - from) (omega arith))

-- Where there is no header, every level stays.
pub no_header_stays : (list : List Atom) (depth from to : ℕ) → HasNoHeader list from to → StaysBelow list depth from to
no_header_stays list depth from to part = record {
  rises = part.rises;
  within = part.within;
  deep = λ k l m header. absurd (let clash : true ≡ false = sym header ∙ part.none k l m in cc);
}

count_steps : (list : List Atom) (q : Path) (from to : ℕ) → IsBehind list q from → HasNoHeader list from to → (d : ℕ) → from + d ≤ to → header_count (path_before list (from + d)) ≡ length q
count_steps list q from to behind part zero l =
    ap (λ n. header_count (path_before list n)) (let e : from + 0 ≡ from = omega arith in e) ∙ ap header_count behind.path ∙ count_headers q behind.headers
count_steps list q from to behind part (suc d) l =
    ap (λ n. header_count (path_before list n)) (let e : from + suc d ≡ from + d + 1 = omega arith in e)
    ∙ count_next list (from + d) behind.well_formed (omega (arith, part.within))
    ∙ ap (λ b. cond b (level (atom_at list (from + d)) + 1) (header_count (path_before list (from + d)))) (part.none (from + d) (omega arith) (omega arith))
    ∙ count_steps list q from to behind part d (omega arith)

-- Among the data after q the headers of q are all that are open.
pub data_count : (list : List Atom) (q : Path) (from to : ℕ) → IsBehind list q from → HasNoHeader list from to → (k : ℕ) → from ≤ k → k ≤ to → header_count (path_before list k) ≡ length q
data_count list q from to behind part k l m =
    ap (λ n. header_count (path_before list n)) (let e : k ≡ from + (k - from) = omega arith in e) ∙ count_steps list q from to behind part (k - from) (omega arith)

-- ---- the paths of what is there

-- A datum after q has the path q and then itself.
pub datum_there : (list : List Atom) (q : Path) (from to k : ℕ) (x : List ℕ) → IsBehind list q from → HasNoHeader list from to → from ≤ k → k < to → atom_at list k ≡ 0 ∷ x
    → path_at list k ≡ q ++ (0 ∷ x) ∷ []
datum_there list q from to k x behind part l m is =
    let inside : IsInside list q k = inside_along list q from to behind (no_header_stays list (length q) from to part) k l (omega arith) in
    path_at-next list k (omega (arith, part.within))
    ∙ ap (path_after (path_before list k)) is
    ∙ ap (λ n. take n (path_before list k) ++ (0 ∷ x) ∷ []) (data_count list q from to behind part k l (omega arith))
    ∙ ap (λ v. v ++ (0 ∷ x) ∷ []) inside.front

-- A header of the level below q has the path q and then itself.
pub header_there : (list : List Atom) (q : Path) (k : ℕ) → k < length list → IsInside list q k → is_header (atom_at list k) ≡ true → level (atom_at list k) ≡ length q
    → path_at list k ≡ q ++ atom_at list k ∷ []
header_there list q k within inside header own =
    path_at-next list k within
    ∙ header_path (path_before list k) (atom_at list k) header
    ∙ ap (λ n. take n (path_before list k) ++ atom_at list k ∷ []) own
    ∙ ap (λ v. v ++ atom_at list k ∷ []) inside.front

are_headers_more : (q : Path) (a : Atom) → AreHeaders q → is_header a ≡ true → AreHeaders (q ++ a ∷ [])
are_headers_more [] a h e = (e, tt)
are_headers_more (x ∷ q) a h e = (h.0, are_headers_more q a h.1 e)

-- The place after such a header is after its path.
pub child_behind : (list : List Atom) (q : Path) (k : ℕ) → IsWellFormed list → AreHeaders q → k < length list → IsInside list q k → is_header (atom_at list k) ≡ true → level (atom_at list k) ≡ length q
    → IsBehind list (q ++ atom_at list k ∷ []) (k + 1)
child_behind list q k w headers within inside header own = record {
  well_formed = w;
  within = omega arith;
  headers = are_headers_more q (atom_at list k) headers header;
  path = header_there list q k within inside header own;
}
