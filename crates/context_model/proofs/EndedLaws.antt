-- A field is ended exactly where the atom before each marker is beyond it, and a list without some of its data is well
-- formed and ended where the list was.
use Rattle.std.proofs.Common.{◌≡◌, ℕ, zero, suc, ◌+◌, ◌≤◌, ◌⊎◌, ◌↔◌, Bool, true, false, cond, nat_le, List, [], ◌∷◌, ◌++◌, take, Ordering, Less, Equal, Greater, sym, refl, ap, ◌∙◌, subst, arith, inl, inr, le_refl, add-zero, zero-add, subst₂, slice_get, Some, ◌==◌, ◌||◌, eqb-true}
use Rattle.std.specs.List.{AllByRecursion, list_any}
use Rattle.std.proofs.lemmas.List.{take-take, take_at, take-append-le, length-take-le}
use Rattle.std.specs.Ordering.{ordering_then, ordering_reverse}
use Rattle.context_model.specs.Atoms.{Atom}
use Rattle.context_model.specs.Kinds.{HasKind}
use Rattle.context_model.specs.Orders.{Path, atom_cmp, path_cmp, IsIn}
use Rattle.context_model.specs.Paths.{is_header, level, header_count, depth_after, path_after, paths_after}
use Rattle.context_model.specs.WellFormed.{IsWellFormed}
use Rattle.context_model.specs.Ended.{HasMarker, front_of, IsBeyond, IsEnded, EndsAtMarkers, AreHeaders}
use Rattle.context_model.specs.WithoutData.{without_from, without, AreDataPlaces, DataMayGo}
use Rattle.context_model.proofs.Leaving.{LeavesAllButData}
use Rattle.context_model.proofs.Leaving.LeavesAllButData.{empty, drops, keeps}
use Rattle.context_model.proofs.OrderLaws.{paths_total, paths_anti}
use Rattle.context_model.proofs.Following.{Fits, Follows, IsWellFormed-follows, IsWellFormed-from, header_count-length, header_count-take, header_count-more, path_after-marker, later_below, Fits-marker}
use Rattle.context_model.proofs.Beyond.{IsBeyond-later, beyond_none, headers_of, beyond_headers, beyond_from_headers}

-- The atom before each marker is beyond s; q is the path before the list.
abbrev pub EndsByCases : Path → List Atom → Path → Type 0
EndsByCases q [] s = Unit {0}
EndsByCases q ([] ∷ list) s = IsBeyond s q × EndsByCases (path_after q []) list s
EndsByCases q ((b ∷ bytes) ∷ list) s = EndsByCases (path_after q (b ∷ bytes)) list s

-- once beyond, always beyond
stays_beyond : (q : Path) (list : List Atom) (s : Path) → Follows q list → IsBeyond s q → EndsByCases q list s
stays_beyond q [] s f b = tt
stays_beyond q ([] ∷ list) s f b = (b, stays_beyond (path_after q []) list s f.1 (IsBeyond-later s q (path_after q []) b f.0.later))
stays_beyond q ((c ∷ bytes) ∷ list) s f b = stays_beyond (path_after q (c ∷ bytes)) list s f.1 (IsBeyond-later s q (path_after q (c ∷ bytes)) b f.0.later)

no_markers : (q : Path) (list : List Atom) (s : Path) → (HasMarker list → ⊥) → EndsByCases q list s
no_markers q [] s n = tt
no_markers q ([] ∷ list) s n = absurd (n (inl refl))
no_markers q ((c ∷ bytes) ∷ list) s n = no_markers (path_after q (c ∷ bytes)) list s (λ i. n (inr i))

from_front : (q : Path) (list : List Atom) (s p : Path) → Follows q list → IsIn p (paths_after q (front_of list)) → IsBeyond s p → EndsByCases q list s
from_front q [] s p f i b = absurd i
from_front q ([] ∷ list) s p f i b = absurd i
from_front q ((c ∷ bytes) ∷ list) s p f (inl e) b = stays_beyond (path_after q (c ∷ bytes)) list s f.1 (subst (IsBeyond s) e b)
from_front q ((c ∷ bytes) ∷ list) s p f (inr i) b = from_front (path_after q (c ∷ bytes)) list s p f.1 i b

pub IsEnded-markers : (list : List Atom) (s : Path) → IsWellFormed list → IsEnded list s → EndsByCases [] list s
IsEnded-markers list s w (inl n) = no_markers [] list s n
IsEnded-markers list s w (inr (p, i, b)) = from_front [] list s p (IsWellFormed-follows list w) i b

-- back: there is no marker, or q is beyond s, or an atom before the first marker is
to_front : (q : Path) (list : List Atom) (s : Path) → EndsByCases q list s → (HasMarker list → ⊥) ⊎ (IsBeyond s q ⊎ ((p : Path) × IsIn p (paths_after q (front_of list)) × IsBeyond s p))
to_front q [] s m = inl (λ i. i)
to_front q ([] ∷ list) s m = inr (inl m.0)
to_front q ((c ∷ bytes) ∷ list) s m = by (to_front (path_after q (c ∷ bytes)) list s m)
  where
    none : (HasMarker list → ⊥) → HasMarker ((c ∷ bytes) ∷ list) → ⊥
    none n (inl e) = cc
    none n (inr i) = n i

    by : (HasMarker list → ⊥) ⊎ (IsBeyond s (path_after q (c ∷ bytes)) ⊎ ((p : Path) × IsIn p (paths_after (path_after q (c ∷ bytes)) (front_of list)) × IsBeyond s p))
        → (HasMarker ((c ∷ bytes) ∷ list) → ⊥) ⊎ (IsBeyond s q ⊎ ((p : Path) × IsIn p (paths_after q (front_of ((c ∷ bytes) ∷ list))) × IsBeyond s p))
    by (inl n) = inl (none n)
    by (inr (inl b)) = inr (inr (path_after q (c ∷ bytes), inl refl, b))
    by (inr (inr (p, i, b))) = inr (inr (p, inr i, b))

pub IsEnded-from_markers : (list : List Atom) (s : Path) → EndsByCases [] list s → IsEnded list s
IsEnded-from_markers list s m = by (to_front [] list s m)
  where
    by : (HasMarker list → ⊥) ⊎ (IsBeyond s [] ⊎ ((p : Path) × IsIn p (paths_after [] (front_of list)) × IsBeyond s p)) → IsEnded list s
    by (inl n) = inl n
    by (inr (inl b)) = absurd (beyond_none s b)
    by (inr (inr x)) = inr x

-- ---- without some of the data

-- The path r in what is left has the same headers as the path q in the list, and isn't greater.
pub record Kept (q r : Path) : Type 0 where
  pub count : header_count r ≡ header_count q
  pub headers : headers_of r ≡ headers_of q
  pub most : (r ≡ q) ⊎ (path_cmp r q ≡ Less)

pub kept_same : (q : Path) → Kept q q
kept_same q = record { count = refl; headers = refl; most = inl refl }

up_to : (r q p : Path) → (r ≡ q) ⊎ (path_cmp r q ≡ Less) → path_cmp q p ≡ Less → path_cmp r p ≡ Less
up_to r q p (inl e) l = ap (λ v. path_cmp v p) e ∙ l
up_to r q p (inr h) l = paths_total.trans r q p h l

-- some of the headers of both
fewer : (n : ℕ) (q r : Path) → Kept q r → n ≤ header_count q → take n r ≡ take n q
fewer n q r k h =
    sym (take-take n (header_count r) r (omega (arith, k.count))) ∙ ap (take n) k.headers ∙ take-take n (header_count q) q h

-- an atom that is no marker has the same path after both
pub kept_path : (q r : Path) (a : Atom) → Kept q r → (a ≡ [] → ⊥) → (is_header a ≡ true → level a ≤ header_count q) → path_after r a ≡ path_after q a
kept_path q r [] k n f = absurd (n refl)
kept_path q r (b ∷ bytes) k n f = by (nat_le 128 b) refl
  where
    by : (h : Bool) → nat_le 128 b ≡ h
        → take (cond h (level (b ∷ bytes)) (header_count r)) r ++ (b ∷ bytes) ∷ [] ≡ take (cond h (level (b ∷ bytes)) (header_count q)) q ++ (b ∷ bytes) ∷ []
    by true e = ap (λ v. v ++ (b ∷ bytes) ∷ []) (fewer (level (b ∷ bytes)) q r k (f e))
    by false e = ap (λ v. v ++ (b ∷ bytes) ∷ []) k.headers

-- the headers of a path with one atom after them
pub headers_front : (q : Path) (a : Atom) → headers_of q ≡ take (header_count q) (headers_of q ++ a ∷ [])
headers_front q a = sym (take_at (headers_of q) (a ∷ []) (header_count q) (length-take-le (header_count q) q (header_count-length q)))

pub kept_drop : (q r : Path) (payload : List ℕ) → Kept q r → Fits q (0 ∷ payload) → Kept (path_after q (0 ∷ payload)) r
kept_drop q r payload k f = record {
  count = k.count ∙ sym count;
  headers = k.headers ∙ headers_front q (0 ∷ payload) ∙ ap (λ v. take v (headers_of q ++ (0 ∷ payload) ∷ [])) (sym count);
  most = inr (up_to r q (path_after q (0 ∷ payload)) k.most f.later);
}
  where
    count : header_count (headers_of q ++ (0 ∷ payload) ∷ []) ≡ header_count q
    count = header_count-take (header_count q) q (0 ∷ payload) (le_refl (header_count q)) ∙ add-zero (header_count q)

pub headers_more : (q : Path) → headers_of (q ++ [] ∷ []) ≡ headers_of q
headers_more q = ap (λ v. take v (q ++ [] ∷ [])) (header_count-more q) ∙ take-append-le (header_count q) q ([] ∷ []) (header_count-length q)

-- nothing lies between a path and that path with a marker
pub before_marker : (x p : Path) → path_cmp x (p ++ [] ∷ []) ≡ Less → path_cmp x p ≡ Greater → ⊥
before_marker [] [] h g = let clash : Equal ≡ Greater = g in cc
before_marker [] (a ∷ p) h g = let clash : Less ≡ Greater = g in cc
before_marker ([] ∷ []) [] h g = let clash : Equal ≡ Less = h in cc
before_marker ([] ∷ y ∷ x) [] h g = let clash : Greater ≡ Less = h in cc
before_marker ((b ∷ bytes) ∷ x) [] h g = let clash : Greater ≡ Less = h in cc
before_marker (y ∷ x) (a ∷ p) h g = by (atom_cmp y a) h g (before_marker x p)
  where
    by : (r : Ordering) → ordering_then r (path_cmp x (p ++ [] ∷ [])) ≡ Less → ordering_then r (path_cmp x p) ≡ Greater
        → (path_cmp x (p ++ [] ∷ []) ≡ Less → path_cmp x p ≡ Greater → ⊥) → ⊥
    by Less h g deeper = cc
    by Equal h g deeper = deeper h g
    by Greater h g deeper = cc

marker_most : (q r : Path) → (r ≡ q) ⊎ (path_cmp r q ≡ Less) → (r ++ [] ∷ [] ≡ q ++ [] ∷ []) ⊎ (path_cmp (r ++ [] ∷ []) (q ++ [] ∷ []) ≡ Less)
marker_most q r (inl e) = inl (ap (λ v. v ++ [] ∷ []) e)
marker_most q r (inr l) = by (path_cmp (r ++ [] ∷ []) q) refl
  where
    by : (o : Ordering) → path_cmp (r ++ [] ∷ []) q ≡ o → (r ++ [] ∷ [] ≡ q ++ [] ∷ []) ⊎ (path_cmp (r ++ [] ∷ []) (q ++ [] ∷ []) ≡ Less)
    by Less e = inr (paths_total.trans (r ++ [] ∷ []) q (q ++ [] ∷ []) e (later_below q []))
    by Equal e = inr (ap (λ v. path_cmp v (q ++ [] ∷ [])) (paths_anti (r ++ [] ∷ []) q e) ∙ later_below q [])
    by Greater e =
        let less : path_cmp q (r ++ [] ∷ []) ≡ Less = paths_total.antisymm q (r ++ [] ∷ []) ∙ ap ordering_reverse e in
        let greater : path_cmp q r ≡ Greater = paths_total.antisymm q r ∙ ap ordering_reverse l in
        absurd (before_marker q r less greater)

pub kept_marker : (q r : Path) → Kept q r → Kept (path_after q []) (path_after r [])
kept_marker q r k = subst₂ Kept (sym (path_after-marker q)) (sym (path_after-marker r)) (record {
  count = header_count-more r ∙ k.count ∙ sym (header_count-more q);
  headers = headers_more r ∙ k.headers ∙ sym (headers_more q);
  most = marker_most q r k.most;
})

some_atom : (b : ℕ) (bytes : List ℕ) → (let a : Atom = b ∷ bytes in a ≡ []) → ⊥
some_atom b bytes e = cc

kept_fits : (q r : Path) (b : ℕ) (bytes : List ℕ) → Kept q r → Fits q (b ∷ bytes) → Fits r (b ∷ bytes)
kept_fits q r b bytes k f = record {
  level = λ e. let l : level (b ∷ bytes) ≤ header_count q = f.level e in omega (arith, k.count);
  later = ap (path_cmp r) (kept_path q r (b ∷ bytes) k (some_atom b bytes) f.level) ∙ up_to r q (path_after q (b ∷ bytes)) k.most f.later;
}

pub kept_next : (q r : Path) (b : ℕ) (bytes : List ℕ) → Kept q r → Fits q (b ∷ bytes) → Kept (path_after q (b ∷ bytes)) (path_after r (b ∷ bytes))
kept_next q r b bytes k f = subst (Kept (path_after q (b ∷ bytes))) (sym (kept_path q r (b ∷ bytes) k (some_atom b bytes) f.level)) (kept_same (path_after q (b ∷ bytes)))

kept_follows : (q r : Path) (list left : List Atom) → Kept q r → Follows q list → LeavesAllButData list left → Follows r left
kept_follows q r list left k f empty = tt
kept_follows q r list left k f (drops {payload = payload} {list = rest} {left = kept} d) = kept_follows (path_after q (0 ∷ payload)) r rest kept (kept_drop q r payload k f.0) f.1 d
kept_follows q r list left k f (keeps {a = []} {list = rest} {left = kept} d) = (Fits-marker r, kept_follows (path_after q []) (path_after r []) rest kept (kept_marker q r k) f.1 d)
kept_follows q r list left k f (keeps {a = b ∷ bytes} {list = rest} {left = kept} d) =
    (kept_fits q r b bytes k f.0, kept_follows (path_after q (b ∷ bytes)) (path_after r (b ∷ bytes)) rest kept (kept_next q r b bytes k f.0) f.1 d)

kept_kinds : (list left : List Atom) → AllByRecursion HasKind list → LeavesAllButData list left → AllByRecursion HasKind left
kept_kinds list left h empty = tt
kept_kinds list left h (drops {payload = payload} {list = rest} {left = kept} d) = kept_kinds rest kept h.1 d
kept_kinds list left h (keeps {a = a} {list = rest} {left = kept} d) = (h.0, kept_kinds rest kept h.1 d)

-- a well-formed list without some of its data is well formed
pub LeavesAllButData-well_formed : (list left : List Atom) → IsWellFormed list → LeavesAllButData list left → IsWellFormed left
LeavesAllButData-well_formed list left w d =
    IsWellFormed-from left (kept_kinds list left w.kinds d) (kept_follows [] [] list left (kept_same []) (IsWellFormed-follows list w) d)

-- only headers count for what is beyond a path of headers
beyond_kept : (s q r : Path) → AreHeaders s → Kept q r → IsBeyond s q → IsBeyond s r
beyond_kept s q r h k b = beyond_from_headers s r h (subst (IsBeyond s) (sym k.headers) (beyond_headers s q h b))

beyond_back : (s q r : Path) → AreHeaders s → Kept q r → IsBeyond s r → IsBeyond s q
beyond_back s q r h k b = beyond_from_headers s q h (subst (IsBeyond s) k.headers (beyond_headers s r h b))

ends_kept : (s q r : Path) (list left : List Atom) → AreHeaders s → Kept q r → Follows q list → LeavesAllButData list left → EndsByCases q list s → EndsByCases r left s
ends_kept s q r list left h k f empty m = tt
ends_kept s q r list left h k f (drops {payload = payload} {list = rest} {left = kept} d) m = ends_kept s (path_after q (0 ∷ payload)) r rest kept h (kept_drop q r payload k f.0) f.1 d m
ends_kept s q r list left h k f (keeps {a = []} {list = rest} {left = kept} d) m =
    (beyond_kept s q r h k m.0, ends_kept s (path_after q []) (path_after r []) rest kept h (kept_marker q r k) f.1 d m.1)
ends_kept s q r list left h k f (keeps {a = b ∷ bytes} {list = rest} {left = kept} d) m =
    ends_kept s (path_after q (b ∷ bytes)) (path_after r (b ∷ bytes)) rest kept h (kept_next q r b bytes k f.0) f.1 d m

ends_back : (s q r : Path) (list left : List Atom) → AreHeaders s → Kept q r → Follows q list → LeavesAllButData list left → EndsByCases r left s → EndsByCases q list s
ends_back s q r list left h k f empty m = tt
ends_back s q r list left h k f (drops {payload = payload} {list = rest} {left = kept} d) m = ends_back s (path_after q (0 ∷ payload)) r rest kept h (kept_drop q r payload k f.0) f.1 d m
ends_back s q r list left h k f (keeps {a = []} {list = rest} {left = kept} d) m =
    (beyond_back s q r h k m.0, ends_back s (path_after q []) (path_after r []) rest kept h (kept_marker q r k) f.1 d m.1)
ends_back s q r list left h k f (keeps {a = b ∷ bytes} {list = rest} {left = kept} d) m =
    ends_back s (path_after q (b ∷ bytes)) (path_after r (b ∷ bytes)) rest kept h (kept_next q r b bytes k f.0) f.1 d m

-- and it is ended at a path of headers exactly where the list was
pub LeavesAllButData-ended : (list left : List Atom) (s : Path) → IsWellFormed list → LeavesAllButData list left → AreHeaders s → IsEnded list s ↔ IsEnded left s
LeavesAllButData-ended list left s w d h = (
  (λ e. IsEnded-from_markers left s (ends_kept s [] [] list left h (kept_same []) (IsWellFormed-follows list w) d (IsEnded-markers list s w e))),
  λ e. IsEnded-from_markers list s (ends_back s [] [] list left h (kept_same []) (IsWellFormed-follows list w) d
      (IsEnded-markers left s (LeavesAllButData-well_formed list left w d) e)),
)

-- ---- by the paths of the markers

snoc : (xs ys : Path) (a b : Atom) → xs ++ a ∷ [] ≡ ys ++ b ∷ [] → (xs ≡ ys) × (a ≡ b)
snoc [] [] a b e = let h : a ≡ b = cc in (refl, h)
snoc [] (y ∷ []) a b e = cc
snoc [] (y ∷ z ∷ ys) a b e = cc
snoc (x ∷ []) [] a b e = cc
snoc (x ∷ z ∷ xs) [] a b e = cc
snoc (x ∷ xs) (y ∷ ys) a b e =
    let h : x ≡ y = cc in
    let t : xs ++ a ∷ [] ≡ ys ++ b ∷ [] = cc in
    let s : (xs ≡ ys) × (a ≡ b) = snoc xs ys a b t in
    ((λ i. h i ∷ s.0 i), s.1)

to_paths : (q : Path) (list : List Atom) (s : Path) → EndsByCases q list s → (p : Path) → IsIn (p ++ [] ∷ []) (paths_after q list) → IsBeyond s p
to_paths q [] s m p i = absurd i
to_paths q ([] ∷ list) s m p (inl e) = subst (IsBeyond s) (sym (snoc p q [] [] (e ∙ path_after-marker q)).0) m.0
to_paths q ([] ∷ list) s m p (inr i) = to_paths (path_after q []) list s m.1 p i
to_paths q ((b ∷ bytes) ∷ list) s m p (inl e) = absurd (some_atom b bytes (sym (snoc p (take (depth_after q (b ∷ bytes)) q) [] (b ∷ bytes) e).1))
to_paths q ((b ∷ bytes) ∷ list) s m p (inr i) = to_paths (path_after q (b ∷ bytes)) list s m p i

from_paths : (q : Path) (list : List Atom) (s : Path) → ((p : Path) → IsIn (p ++ [] ∷ []) (paths_after q list) → IsBeyond s p) → EndsByCases q list s
from_paths q [] s h = tt
from_paths q ([] ∷ list) s h = (h q (inl (sym (path_after-marker q))), from_paths (path_after q []) list s (λ p i. h p (inr i)))
from_paths q ((b ∷ bytes) ∷ list) s h = from_paths (path_after q (b ∷ bytes)) list s (λ p i. h p (inr i))

pub ends_at_markers : EndsAtMarkers
ends_at_markers list s w = ((λ e. to_paths [] list s (IsEnded-markers list s w e)), λ h. IsEnded-from_markers list s (from_paths [] list s h))

-- ---- by places

leaves : (i : ℕ) (gone : List ℕ) (list : List Atom) → ((k : ℕ) (a : Atom) → slice_get list k ≡ Some a → list_any (λ place. place == (i + k)) gone ≡ true → (payload : List ℕ) × (a ≡ 0 ∷ payload))
    → LeavesAllButData list (without_from i gone list)
leaves i gone [] h = empty
leaves i gone (a ∷ list) h =
    by (list_any (λ place. place == i) gone) refl (leaves (i + 1) gone list (λ k b e l. h (suc k) b e (subst (λ v. list_any (λ place. place == v) gone ≡ true) (shift k) l)))
  where
    shift : (k : ℕ) → i + 1 + k ≡ i + suc k
    shift k = omega arith

    by : (t : Bool) → list_any (λ place. place == i) gone ≡ t → LeavesAllButData list (without_from (i + 1) gone list)
        → LeavesAllButData (a ∷ list) (cond t (without_from (i + 1) gone list) (a ∷ without_from (i + 1) gone list))
    by false e d = keeps d
    by true e d =
        let x : (payload : List ℕ) × (a ≡ 0 ∷ payload) = h zero a refl (subst (λ v. list_any (λ place. place == v) gone ≡ true) (sym (add-zero i)) e) in
        subst (λ v. LeavesAllButData (v ∷ list) (without_from (i + 1) gone list)) (sym (x.1)) (drops {payload = x.0} d)

pub datum_there : (gone : List ℕ) (list : List Atom) (k : ℕ) (a : Atom) → AreDataPlaces gone list → slice_get list k ≡ Some a → list_any (λ place. place == k) gone ≡ true
    → (payload : List ℕ) × (a ≡ 0 ∷ payload)
datum_there [] list k a d e l = cc
datum_there (g ∷ gone) list k a d e l = by (g == k) refl l (λ m. datum_there gone list k a d.1 e m)
  where
    by : (t : Bool) → (g == k) ≡ t → (t || list_any (λ place. place == k) gone) ≡ true → (list_any (λ place. place == k) gone ≡ true → (payload : List ℕ) × (a ≡ 0 ∷ payload))
        → (payload : List ℕ) × (a ≡ 0 ∷ payload)
    by true f l deeper =
        let place : g ≡ k = eqb-true g k f in
        let one : Some a ≡ Some (0 ∷ d.0.0) = sym e ∙ ap (slice_get list) (sym place) ∙ d.0.1 in
        let atom : a ≡ 0 ∷ d.0.0 = cc in
        (d.0.0, atom)
    by false f l deeper = deeper l

pub without-leaves : (gone : List ℕ) (list : List Atom) → AreDataPlaces gone list → LeavesAllButData list (without gone list)
without-leaves gone list d = leaves 0 gone list (λ k a e l. datum_there gone list k a d e (subst (λ v. list_any (λ place. place == v) gone ≡ true) (zero-add k) l))

pub data_may_go : DataMayGo
data_may_go list gone w d = record {
  well_formed = LeavesAllButData-well_formed list (without gone list) w (without-leaves gone list d);
  ended = λ s h. LeavesAllButData-ended list (without gone list) s w (without-leaves gone list d) h;
}
