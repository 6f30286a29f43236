-- What a step of a walk leaves.
use Rattle.std.proofs.Common.{◌≡◌, ℕ, zero, suc, ◌+◌, ◌<◌, ◌≤◌, ◌==◌, ◌&&◌, Bool, true, false, cond, List, [], ◌∷◌, ◌++◌, length, map, take, drop, refl, sym, ◌∙◌, ap, subst, arith, eq-eqb, ne_eqb}
use Rattle.std.specs.List.{range_with_len}
use Rattle.std.proofs.lemmas.List.{take_more, drop_more, length-take-le}
use Rattle.std.proofs.lemmas.List.FromFn.{length-map-range_with_len, take-map-range_with_len, map-range_with_len_more}
use Rattle.context_model.specs.Atoms.{Atom}
use Rattle.context_model.specs.Paths.{is_header, level, header_count, path_after, last_path_after}
use Rattle.context_model.specs.WellFormed.{IsWellFormed}
use Rattle.context_model.proofs.Following.{Fits, Follows-back, IsWellFormed-follows, IsWellFormed-take, last_path_after-append, next_bound}
use Rattle.atom_list.specs.declared.places.Place.{Place}
use Rattle.atom_list.specs.OpenPlaces.{atom_at, path_before}
use Rattle.atom_list.specs.Places.{nearest_place_from, nearest_place, nearest_places, headers_around, padded, place_of, places_behind, IsAtomWalk}

-- ---- one atom more

nearest_place_from-more : (last n i : ℕ) (list : List Atom) (a : Atom)
    → nearest_place_from last n i (list ++ a ∷ []) ≡ cond (is_header a && (level a == n)) (i + length list) (nearest_place_from last n i list)
nearest_place_from-more last n i [] a = by (is_header a && (level a == n))
  where
    by : (b : Bool) → cond b i last ≡ cond b (i + 0) last
    by true = omega arith
    by false = refl
nearest_place_from-more last n i (x ∷ list) a =
    nearest_place_from-more (cond (is_header x && (level x == n)) i last) n (i + 1) list a
    ∙ (let e : i + 1 + length list ≡ i + suc (length list) = omega arith in
    ap (λ v. cond (is_header a && (level a == n)) v (nearest_place_from (cond (is_header x && (level x == n)) i last) n (i + 1) list)) e)

pub nearest_place-more : (list : List Atom) (a : Atom) (n : ℕ) → nearest_place (list ++ a ∷ []) n ≡ cond (is_header a && (level a == n)) (length list) (nearest_place list n)
nearest_place-more list a n =
    nearest_place_from-more 0 n 0 list a ∙ (let e : 0 + length list ≡ length list = omega arith in ap (λ v. cond (is_header a && (level a == n)) v (nearest_place list n)) e)

same_map : (f g : ℕ → ℕ) (from count : ℕ) → ((k : ℕ) → k < from + count → f k ≡ g k) → map f (range_with_len from count) ≡ map g (range_with_len from count)
same_map f g from zero same = refl
same_map f g from (suc count) same =
    ap (λ v. v ∷ map f (range_with_len (from + 1) count)) (same from (omega arith)) ∙ ap (λ v. g from ∷ v) (same_map f g (from + 1) count (λ k below. same k (omega arith)))

nearest_places-other : (count : ℕ) (list : List Atom) (a : Atom) → is_header a ≡ false → nearest_places count (list ++ a ∷ []) ≡ nearest_places count list
nearest_places-other count list a other =
    same_map (nearest_place (list ++ a ∷ [])) (nearest_place list) 0 count (λ k below. nearest_place-more list a k ∙ ap (λ b. cond (b && (level a == k)) (length list) (nearest_place list k)) other)

nearest_places-header : (list : List Atom) (a : Atom) → is_header a ≡ true → nearest_places (level a + 1) (list ++ a ∷ []) ≡ nearest_places (level a) list ++ length list ∷ []
nearest_places-header list a header =
    map-range_with_len_more (nearest_place (list ++ a ∷ [])) 0 (level a) (level a) (omega arith)
    ∙ ap (λ v. map (nearest_place (list ++ a ∷ [])) (range_with_len 0 (level a)) ++ v ∷ []) here
    ∙ ap (λ v. v ++ length list ∷ []) (same_map (nearest_place (list ++ a ∷ [])) (nearest_place list) 0 (level a) (λ k below. below_here k (omega arith)))
  where
    here : nearest_place (list ++ a ∷ []) (level a) ≡ length list
    here = nearest_place-more list a (level a) ∙ ap (λ b. cond (b && (level a == level a)) (length list) (nearest_place list (level a))) header
        ∙ ap (λ b. cond b (length list) (nearest_place list (level a))) (eq-eqb (level a) (level a) refl)

    below_here : (k : ℕ) → k < level a → nearest_place (list ++ a ∷ []) k ≡ nearest_place list k
    below_here k below = nearest_place-more list a k ∙ ap (λ b. cond (b && (level a == k)) (length list) (nearest_place list k)) header
        ∙ ap (λ b. cond b (length list) (nearest_place list k)) (ne_eqb (level a) k (λ e. omega arith))

-- ---- an atom of a well-formed list, at its place

-- The path of the atom at a place is the one after the atoms up to it.
pub path_next : (list : List Atom) (at : ℕ) → at < length list → path_before list (at + 1) ≡ path_after (path_before list at) (atom_at list at)
path_next list at within = ap (last_path_after []) (take_more list at [] within) ∙ last_path_after-append [] (take at list) (atom_at list at ∷ [])

pub fits_at : (list : List Atom) (at : ℕ) → IsWellFormed list → at < length list → Fits (path_before list at) (atom_at list at)
fits_at list at w within =
    let front : IsWellFormed (take at list ++ atom_at list at ∷ []) = subst IsWellFormed (take_more list at [] within) (IsWellFormed-take (at + 1) list w) in
    (Follows-back [] (take at list) (atom_at list at ∷ []) (IsWellFormed-follows (take at list ++ atom_at list at ∷ []) front)).0

pub header_count-next : (list : List Atom) (at : ℕ) → IsWellFormed list → at < length list
    → header_count (path_before list (at + 1)) ≡ cond (is_header (atom_at list at)) (level (atom_at list at) + 1) (header_count (path_before list at))
header_count-next list at w within = ap header_count (path_next list at within) ∙ next_bound (path_before list at) (atom_at list at) (fits_at list at w within).level

-- ---- steps of a walk

pub walk_length : (list : List Atom) (at : ℕ) (headers : List ℕ) → IsAtomWalk list at headers → length headers ≡ header_count (path_before list at)
walk_length list at headers walk = ap length walk.open_places ∙ length-map-range_with_len (nearest_place (take at list)) 0 (header_count (path_before list at))

pub walk_other : (list : List Atom) (at : ℕ) (headers : List ℕ) → IsAtomWalk list at headers → at < length list → is_header (atom_at list at) ≡ false → IsAtomWalk list (at + 1) headers
walk_other list at headers walk within other = record {
  well_formed = walk.well_formed;
  within = omega arith;
  open_places = walk.open_places
      ∙ sym (nearest_places-other (header_count (path_before list at)) (take at list) (atom_at list at) other)
      ∙ ap (λ v. nearest_places (header_count (path_before list at)) v) (sym (take_more list at [] within))
      ∙ ap (λ n. nearest_places n (take (at + 1) list)) (sym (header_count-next list at walk.well_formed within ∙ ap (λ b. cond b (level (atom_at list at) + 1) (header_count (path_before list at))) other));
}

pub walk_level : (list : List Atom) (at : ℕ) (headers : List ℕ) → IsAtomWalk list at headers → at < length list → is_header (atom_at list at) ≡ true → level (atom_at list at) ≤ length headers
walk_level list at headers walk within header =
    let few : level (atom_at list at) ≤ header_count (path_before list at) = (fits_at list at walk.well_formed within).level header in
    omega (arith, walk_length list at headers walk)

walk_cut : (list : List Atom) (at : ℕ) (headers : List ℕ) → IsAtomWalk list at headers → at < length list → is_header (atom_at list at) ≡ true
    → take (level (atom_at list at)) headers ≡ nearest_places (level (atom_at list at)) (take at list)
walk_cut list at headers walk within header =
    ap (take (level (atom_at list at))) walk.open_places
    ∙ take-map-range_with_len (nearest_place (take at list)) 0 (header_count (path_before list at)) (level (atom_at list at)) ((fits_at list at walk.well_formed within).level header)

pub walk_header : (list : List Atom) (at : ℕ) (headers : List ℕ) → IsAtomWalk list at headers → at < length list → is_header (atom_at list at) ≡ true
    → IsAtomWalk list (at + 1) (take (level (atom_at list at)) headers ++ at ∷ [])
walk_header list at headers walk within header = record {
  well_formed = walk.well_formed;
  within = omega arith;
  open_places = ap (λ v. v ++ at ∷ []) (walk_cut list at headers walk within header)
      ∙ ap (λ v. nearest_places (level (atom_at list at)) (take at list) ++ v ∷ []) (sym (length-take-le at list (omega arith)))
      ∙ sym (nearest_places-header (take at list) (atom_at list at) header)
      ∙ ap (nearest_places (level (atom_at list at) + 1)) (sym (take_more list at [] within))
      ∙ ap (λ n. nearest_places n (take (at + 1) list)) (sym (header_count-next list at walk.well_formed within ∙ ap (λ b. cond b (level (atom_at list at) + 1) (header_count (path_before list at))) header));
}

-- ---- the place of an atom

same_place : (at at' n n' : ℕ) (above above' : List ℕ) (made : Place) → made ≡ record { at = at; level = n; above = above } → at ≡ at' → n ≡ n' → above ≡ above' → made ≡ record { at = at'; level = n'; above = above' }
same_place at at' n n' above above' made e f g h = e ∙ (λ i. record { at = f i; level = g i; above = h i })

pub place_other : (list : List Atom) (at : ℕ) (headers : List ℕ) (made : Place) → IsAtomWalk list at headers → at < length list → is_header (atom_at list at) ≡ false
    → made ≡ record { at = at; level = length headers; above = padded headers } → made ≡ place_of (take at list) (atom_at list at)
place_other list at headers made walk within other e =
    let count : header_count (path_before list at) ≡ headers_around (path_before list at) (atom_at list at) = ap (λ b. cond b (level (atom_at list at)) (header_count (path_before list at))) (sym other) in
    same_place at (length (take at list)) (length headers) (headers_around (path_before list at) (atom_at list at)) (padded headers)
    (padded (nearest_places (headers_around (path_before list at) (atom_at list at)) (take at list))) made e
    (sym (length-take-le at list (omega arith)))
    (walk_length list at headers walk ∙ count)
    (ap padded (walk.open_places ∙ ap (λ n. nearest_places n (take at list)) count))

pub place_header : (list : List Atom) (at : ℕ) (headers : List ℕ) (made : Place) → IsAtomWalk list at headers → at < length list → is_header (atom_at list at) ≡ true
    → made ≡ record { at = at; level = length (take (level (atom_at list at)) headers); above = padded (take (level (atom_at list at)) headers) } → made ≡ place_of (take at list) (atom_at list at)
place_header list at headers made walk within header e =
    let count : level (atom_at list at) ≡ headers_around (path_before list at) (atom_at list at) = ap (λ b. cond b (level (atom_at list at)) (header_count (path_before list at))) (sym header) in
    let kept = take (level (atom_at list at)) headers in
    same_place at (length (take at list)) (length kept) (headers_around (path_before list at) (atom_at list at)) (padded kept)
    (padded (nearest_places (headers_around (path_before list at) (atom_at list at)) (take at list))) made e
    (sym (length-take-le at list (omega arith)))
    (length-take-le (level (atom_at list at)) headers (walk_level list at headers walk within header) ∙ count)
    (ap padded (walk_cut list at headers walk within header ∙ ap (λ n. nearest_places n (take at list)) count))

pub view_next : (list : List Atom) (at : ℕ) → at < length list
    → places_behind (take at list) (drop at list) ≡ place_of (take at list) (atom_at list at) ∷ places_behind (take (at + 1) list) (drop (at + 1) list)
view_next list at within =
    ap (places_behind (take at list)) (drop_more list at [] within)
    ∙ ap (λ v. place_of (take at list) (atom_at list at) ∷ places_behind v (drop (at + 1) list)) (sym (take_more list at [] within))
