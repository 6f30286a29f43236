-- Paths that follow one another: well-formed lists by cases.
use Rattle.std.proofs.Common.{◌≡◌, ℕ, zero, suc, ◌+◌, ◌≤◌, Bool, true, false, cond, nat_le, List, [], ◌∷◌, ◌++◌, length, take, map, filter, Less, sym, refl, ap, ◌∙◌, subst, arith, add-zero, le_refl, drop, take-append-drop}
use Rattle.std.specs.List.{AllByRecursion}
use Rattle.std.proofs.lemmas.List.{take_all}
use Rattle.context_model.specs.Atoms.{Atom}
use Rattle.context_model.specs.Kinds.{HasKind}
use Rattle.context_model.specs.Orders.{Path, path_cmp, Rises}
use Rattle.std.specs.Ordering.{ordering_then}
use Rattle.std.proofs.lemmas.Cmp.{tied_itself}
use Rattle.context_model.specs.Kinds.Kind.{Marker}
use Rattle.context_model.specs.Framing.{size_of}
use Rattle.context_model.specs.Trimmed.{cut_at, kept_of, trimmed}
use Rattle.context_model.proofs.OrderLaws.{atoms_total}
use Rattle.context_model.specs.Paths.{is_header, level, header_count, depth_after, path_after, paths_after, last_path_after}
use Rattle.context_model.specs.WellFormed.{RiseByOneAtMost, IsWellFormed, TrimsWellFormed}

-- The atom may follow one with the path q: its level is at most one above, and its path comes later.
pub record Fits (q : Path) (a : Atom) : Type 0 where
  pub level : is_header a ≡ true → level a ≤ header_count q
  pub later : path_cmp q (path_after q a) ≡ Less

-- Each atom of the list may follow the one before, and the first one with the path q.
abbrev pub Follows : Path → List Atom → Type 0
Follows q [] = Unit {0}
Follows q (a ∷ list) = Fits q a × Follows (path_after q a) list

-- ---- how many headers a path has

pub header_count-length : (q : Path) → header_count q ≤ length q
header_count-length [] = omega arith
header_count-length (a ∷ q) = by (is_header a) (header_count-length q)
  where
    by : (b : Bool) → header_count q ≤ length q → cond b (suc (header_count q)) 0 ≤ suc (length q)
    by true h = omega arith
    by false h = omega arith

-- some of the headers of a path, and one atom after them
pub header_count-take : (n : ℕ) (q : Path) (x : Atom) → n ≤ header_count q → header_count (take n q ++ x ∷ []) ≡ n + cond (is_header x) 1 0
header_count-take zero q x h = by (is_header x)
  where
    by : (b : Bool) → cond b 1 0 ≡ 0 + cond b 1 0
    by true = refl
    by false = refl
header_count-take (suc n) [] x h = absurd (omega arith)
header_count-take (suc n) (a ∷ q) x h = by (is_header a) h (λ l. header_count-take n q x l)
  where
    by : (b : Bool) → suc n ≤ cond b (suc (header_count q)) 0 → (n ≤ header_count q → header_count (take n q ++ x ∷ []) ≡ n + cond (is_header x) 1 0)
        → cond b (suc (header_count (take n q ++ x ∷ []))) 0 ≡ suc n + cond (is_header x) 1 0
    by true l f = let e : header_count (take n q ++ x ∷ []) ≡ n + cond (is_header x) 1 0 = f (omega arith) in omega arith
    by false l f = absurd (omega arith)

pub header_count-more : (q : Path) → header_count (q ++ [] ∷ []) ≡ header_count q
header_count-more [] = refl
header_count-more (a ∷ q) = ap (λ v. cond (is_header a) (suc v) 0) (header_count-more q)

-- a header opens its level, and every other atom leaves the open headers as they are
pub next_bound : (q : Path) (a : Atom) → (is_header a ≡ true → level a ≤ header_count q) → header_count (path_after q a) ≡ cond (is_header a) (level a + 1) (header_count q)
next_bound q [] f = ap header_count (ap (λ v. v ++ [] ∷ []) (take_all (length q) q (le_refl (length q)))) ∙ header_count-more q
next_bound q (b ∷ bytes) f = by (nat_le 128 b) refl
  where
    by : (h : Bool) → nat_le 128 b ≡ h → header_count (take (cond h (level (b ∷ bytes)) (header_count q)) q ++ (b ∷ bytes) ∷ []) ≡ cond h (level (b ∷ bytes) + 1) (header_count q)
    by true e = header_count-take (level (b ∷ bytes)) q (b ∷ bytes) (f e) ∙ ap (λ v. level (b ∷ bytes) + cond v 1 0) e
    by false e = header_count-take (header_count q) q (b ∷ bytes) (le_refl (header_count q)) ∙ ap (λ v. header_count q + cond v 1 0) e ∙ add-zero (header_count q)

-- ---- both ways between the three facts of the whole list and the cases

split_level : (bound : ℕ) (a : Atom) (b : Bool) (rest : List Atom) → RiseByOneAtMost bound (map level (cond b (a ∷ rest) rest))
    → (b ≡ true → level a ≤ bound) × RiseByOneAtMost (cond b (level a + 1) bound) (map level rest)
split_level bound a true rest h = ((λ e. h.0), h.1)
split_level bound a false rest h = ((λ e. cc), h)

join_level : (bound : ℕ) (a : Atom) (b : Bool) (rest : List Atom) → (b ≡ true → level a ≤ bound) → RiseByOneAtMost (cond b (level a + 1) bound) (map level rest)
    → RiseByOneAtMost bound (map level (cond b (a ∷ rest) rest))
join_level bound a true rest f h = (f refl, h)
join_level bound a false rest f h = h

Follows-from : (q : Path) (list : List Atom) → RiseByOneAtMost (header_count q) (map level (filter is_header list)) → Rises path_cmp (q ∷ paths_after q list) → Follows q list
Follows-from q [] h r = tt
Follows-from q (a ∷ list) h r =
    let s : (is_header a ≡ true → level a ≤ header_count q) × RiseByOneAtMost (cond (is_header a) (level a + 1) (header_count q)) (map level (filter is_header list)) =
    split_level (header_count q) a (is_header a) (filter is_header list) h in
    (record { level = s.0; later = r.0 }, Follows-from (path_after q a) list (subst (λ v. RiseByOneAtMost v (map level (filter is_header list))) (sym (next_bound q a s.0)) s.1) r.1)

Follows-levels : (q : Path) (list : List Atom) → Follows q list → RiseByOneAtMost (header_count q) (map level (filter is_header list))
Follows-levels q [] f = tt
Follows-levels q (a ∷ list) f =
    join_level (header_count q) a (is_header a) (filter is_header list) f.0.level
    (subst (λ v. RiseByOneAtMost v (map level (filter is_header list))) (next_bound q a f.0.level) (Follows-levels (path_after q a) list f.1))

Follows-order : (q : Path) (list : List Atom) → Follows q list → Rises path_cmp (q ∷ paths_after q list)
Follows-order q [] f = tt
Follows-order q (a ∷ list) f = (f.0.later, Follows-order (path_after q a) list f.1)

-- the empty path comes before every other
rises_from_empty : (list : List Atom) → Rises path_cmp (paths_after [] list) → Rises path_cmp ([] ∷ paths_after [] list)
rises_from_empty [] h = tt
rises_from_empty (a ∷ list) h = (first (depth_after [] a), h)
  where
    first : (n : ℕ) → path_cmp [] (take n [] ++ a ∷ []) ≡ Less
    first zero = refl
    first (suc n) = refl

rises_tail : (q : Path) (qs : List Path) → Rises path_cmp (q ∷ qs) → Rises path_cmp qs
rises_tail q [] h = tt
rises_tail q (p ∷ qs) h = h.1

pub IsWellFormed-follows : (list : List Atom) → IsWellFormed list → Follows [] list
IsWellFormed-follows list w = Follows-from [] list w.levels (rises_from_empty list w.order)

pub IsWellFormed-from : (list : List Atom) → AllByRecursion HasKind list → Follows [] list → IsWellFormed list
IsWellFormed-from list k f = record { kinds = k; levels = Follows-levels [] list f; order = rises_tail [] (paths_after [] list) (Follows-order [] list f) }

-- ---- lists end to end

pub last_path_after-append : (q : Path) (xs ys : List Atom) → last_path_after q (xs ++ ys) ≡ last_path_after (last_path_after q xs) ys
last_path_after-append q [] ys = refl
last_path_after-append q (x ∷ xs) ys = last_path_after-append (path_after q x) xs ys

pub Follows-append : (q : Path) (xs ys : List Atom) → Follows q xs → Follows (last_path_after q xs) ys → Follows q (xs ++ ys)
Follows-append q [] ys f g = g
Follows-append q (x ∷ xs) ys f g = (f.0, Follows-append (path_after q x) xs ys f.1 g)

pub Follows-front : (q : Path) (xs ys : List Atom) → Follows q (xs ++ ys) → Follows q xs
Follows-front q [] ys f = tt
Follows-front q (x ∷ xs) ys f = (f.0, Follows-front (path_after q x) xs ys f.1)

pub Follows-back : (q : Path) (xs ys : List Atom) → Follows q (xs ++ ys) → Follows (last_path_after q xs) ys
Follows-back q [] ys f = f
Follows-back q (x ∷ xs) ys f = Follows-back (path_after q x) xs ys f.1

pub kinds_front : (xs ys : List Atom) → AllByRecursion HasKind (xs ++ ys) → AllByRecursion HasKind xs
kinds_front [] ys h = tt
kinds_front (x ∷ xs) ys h = (h.0, kinds_front xs ys h.1)

pub kinds_back : (xs ys : List Atom) → AllByRecursion HasKind (xs ++ ys) → AllByRecursion HasKind ys
kinds_back [] ys h = h
kinds_back (x ∷ xs) ys h = kinds_back xs ys h.1

pub kinds_append : (xs ys : List Atom) → AllByRecursion HasKind xs → AllByRecursion HasKind ys → AllByRecursion HasKind (xs ++ ys)
kinds_append [] ys f g = g
kinds_append (x ∷ xs) ys f g = (f.0, kinds_append xs ys f.1 g)

-- a prefix of a well-formed list is well formed
pub IsWellFormed-front : (xs ys : List Atom) → IsWellFormed (xs ++ ys) → IsWellFormed xs
IsWellFormed-front xs ys w = IsWellFormed-from xs (kinds_front xs ys w.kinds) (Follows-front [] xs ys (IsWellFormed-follows (xs ++ ys) w))

-- one atom more
pub IsWellFormed-more : (list : List Atom) (a : Atom) → IsWellFormed list → HasKind a → Fits (last_path_after [] list) a → IsWellFormed (list ++ a ∷ [])
IsWellFormed-more list a w k f =
    IsWellFormed-from (list ++ a ∷ []) (kinds_append list (a ∷ []) w.kinds (k, tt)) (Follows-append [] list (a ∷ []) (IsWellFormed-follows list w) (f, tt))

-- ---- markers

pub later_below : (q : Path) (a : Atom) → path_cmp q (q ++ a ∷ []) ≡ Less
later_below [] a = refl
later_below (x ∷ q) a = ap (λ r. ordering_then r (path_cmp q (q ++ a ∷ []))) (tied_itself atoms_total x) ∙ later_below q a

-- the path of a marker is that of the atom before it and the marker
pub path_after-marker : (q : Path) → path_after q [] ≡ q ++ [] ∷ []
path_after-marker q = ap (λ v. v ++ [] ∷ []) (take_all (length q) q (le_refl (length q)))

-- a marker may follow every atom
pub Fits-marker : (q : Path) → Fits q []
Fits-marker q = record { level = λ e. cc; later = ap (path_cmp q) (path_after-marker q) ∙ later_below q [] }

pub marker_kind : HasKind []
marker_kind = record { kind = Marker; fits = tt; spelled = refl }

pub IsWellFormed-marker : (list : List Atom) → IsWellFormed list → IsWellFormed (list ++ [] ∷ [])
IsWellFormed-marker list w = IsWellFormed-more list [] w marker_kind (Fits-marker (last_path_after [] list))

-- a list that is cut after some of its atoms, with a marker there
pub IsWellFormed-cut : (keep : ℕ) (list : List Atom) → IsWellFormed list → IsWellFormed (cut_at keep list)
IsWellFormed-cut keep list w = IsWellFormed-marker (take keep list) (IsWellFormed-front (take keep list) (drop keep list) (subst IsWellFormed (sym (take-append-drop keep list)) w))

pub IsWellFormed-take : (n : ℕ) (list : List Atom) → IsWellFormed list → IsWellFormed (take n list)
IsWellFormed-take n list w = IsWellFormed-front (take n list) (drop n list) (subst IsWellFormed (sym (take-append-drop n list)) w)

-- a trimmed well-formed list is well formed
pub trimmed-well_formed : TrimsWellFormed
unfolding trimmed
trimmed-well_formed form list budget w = by (nat_le (size_of form list) budget)
  where
    by : (b : Bool) → IsWellFormed (cond b list (cut_at (kept_of form list budget) list))
    by true = w
    by false = IsWellFormed-cut (kept_of form list budget) list w

pub IsWellFormed-empty : IsWellFormed []
IsWellFormed-empty = record { kinds = tt; levels = tt; order = tt }
