-- Walks find the nearest headers.
use Rattle.std.proofs.Common.{◌≡◌, ℕ, zero, suc, ◌+◌, ◌-◌, ◌<◌, ◌≤◌, ◌==◌, ◌&&◌, Bool, true, false, cond, List, [], ◌∷◌, ◌++◌, length, take, get_or, replicate, slice_get, Some, refl, sym, ◌∙◌, ap, subst, arith, inl, inr, add-one, append_assoc, eq-eqb, ne_eqb, leb-true}
use Rattle.std.proofs.lemmas.Bool.{cases_eq}
use Rattle.std.proofs.lemmas.List.{take_more, length-take-le, append-nil, get_or_append_left, get_or-append_right}
use Rattle.std.proofs.lemmas.List.FromFn.{length-map-range_with_len, get_or-map-range_with_len}
use Rattle.std.proofs.lemmas.Option.{slice_get-get_or}
use Rattle.context_model.specs.Atoms.{Atom}
use Rattle.context_model.specs.Paths.{is_header, level, header_count}
use Rattle.context_model.specs.WellFormed.{IsWellFormed}
use Rattle.context_model.specs.Nearest.{IsNearestPlace}
use Rattle.context_model.proofs.PathPlaces.{IsNearestPlace-here, IsNearestPlace-later}
use Rattle.atom_list.specs.declared.places.Place.{Place}
use Rattle.atom_list.specs.OpenPlaces.{atom_at, path_before}
use Rattle.atom_list.specs.Places.{nearest_place, nearest_places, headers_around, padded, place_of, places_behind, depth_from, depth_behind, IsPlaceAt, WalksFindNearest}
use Rattle.atom_list.proofs.Walking.{nearest_place-more, fits_at, header_count-next}

-- ---- the open headers are the nearest ones

module _ (list : List Atom) (w : IsWellFormed list) (at n : ℕ) (within : at < length list) where
  there : slice_get list at ≡ Some (atom_at list at)
  there = slice_get-get_or list at [] within

  more : nearest_place (take (at + 1) list) n ≡ cond (is_header (atom_at list at) && (level (atom_at list at) == n)) at (nearest_place (take at list) n)
  more = ap (λ v. nearest_place v n) (take_more list at [] within) ∙ nearest_place-more (take at list) (atom_at list at) n
      ∙ ap (λ v. cond (is_header (atom_at list at) && (level (atom_at list at) == n)) v (nearest_place (take at list) n)) (length-take-le at list (omega arith))

  later : (is_header (atom_at list at) && (level (atom_at list at) == n)) ≡ false → (is_header (atom_at list at) ≡ true → level (atom_at list at) ≡ n → ⊥)
      → IsNearestPlace list at n (nearest_place (take at list) n) → IsNearestPlace list (at + 1) n (nearest_place (take (at + 1) list) n)
  later e other deeper =
      subst (IsNearestPlace list (at + 1) n) (sym (more ∙ ap (λ b. cond b at (nearest_place (take at list) n)) e)) (IsNearestPlace-later list at n (nearest_place (take at list) n) (atom_at list at) deeper there other)

  here : is_header (atom_at list at) ≡ true → level (atom_at list at) ≡ n → IsNearestPlace list (at + 1) n (nearest_place (take (at + 1) list) n)
  here header same =
      subst (IsNearestPlace list (at + 1) n)
      (sym (more ∙ ap (λ b. cond (b && (level (atom_at list at) == n)) at (nearest_place (take at list) n)) header ∙ ap (λ b. cond b at (nearest_place (take at list) n)) (eq-eqb (level (atom_at list at)) n same)))
      (subst (λ m. IsNearestPlace list (at + 1) m at) same (IsNearestPlace-here list at (atom_at list at) there header))

  nearest_step : n < header_count (path_before list (at + 1)) → (n < header_count (path_before list at) → IsNearestPlace list at n (nearest_place (take at list) n))
      → IsNearestPlace list (at + 1) n (nearest_place (take (at + 1) list) n)
  nearest_step below deeper = by (is_header (atom_at list at)) refl
    where
      count : header_count (path_before list (at + 1)) ≡ cond (is_header (atom_at list at)) (level (atom_at list at) + 1) (header_count (path_before list at))
      count = header_count-next list at w within

      by : (b : Bool) → is_header (atom_at list at) ≡ b → IsNearestPlace list (at + 1) n (nearest_place (take (at + 1) list) n)
      by true e =
          let now : header_count (path_before list (at + 1)) ≡ level (atom_at list at) + 1 = count ∙ ap (λ b. cond b (level (atom_at list at) + 1) (header_count (path_before list at))) e in
          let few : level (atom_at list at) ≤ header_count (path_before list at) = (fits_at list at w within).level e in
          elim (cases_eq (level (atom_at list at)) n) [
            | inl same ↦ here e same
            | inr apart ↦ later (ap (λ b. b && (level (atom_at list at) == n)) e ∙ ne_eqb (level (atom_at list at)) n apart) (λ h k. apart k) (deeper (omega arith))
          ]
      by false e =
          let now : header_count (path_before list (at + 1)) ≡ header_count (path_before list at) = count ∙ ap (λ b. cond b (level (atom_at list at) + 1) (header_count (path_before list at))) e in
          later (ap (λ b. b && (level (atom_at list at) == n)) e) (λ h k. (let clash : true ≡ false = sym h ∙ e in cc)) (deeper (omega arith))

open_nearest : (list : List Atom) → IsWellFormed list → (at n : ℕ) → at ≤ length list → n < header_count (path_before list at) → IsNearestPlace list at n (nearest_place (take at list) n)
open_nearest list w zero n within below = absurd (omega arith)
open_nearest list w (suc at) n within below =
    subst (λ i. IsNearestPlace list i n (nearest_place (take i list) n)) (add-one at)
    (nearest_step list w at n (omega arith) (subst (λ i. n < header_count (path_before list i)) (sym (add-one at)) below) (open_nearest list w at n (omega arith)))

level_few : (a : Atom) → is_header a ≡ true → level a < 16
level_few [] e = cc
level_few (b ∷ bytes) e = let high : 128 ≤ b = leb-true 128 b e in omega arith

open_few : (list : List Atom) → IsWellFormed list → (at : ℕ) → at ≤ length list → header_count (path_before list at) ≤ 16
open_few list w zero within = omega arith
open_few list w (suc at) within =
    subst (λ i. header_count (path_before list i) ≤ 16) (add-one at) (subst (λ n. n ≤ 16) (sym (header_count-next list at w (omega arith))) (by (is_header (atom_at list at)) refl (open_few list w at (omega arith))))
  where
    by : (b : Bool) → is_header (atom_at list at) ≡ b → header_count (path_before list at) ≤ 16 → cond b (level (atom_at list at) + 1) (header_count (path_before list at)) ≤ 16
    by true e rest = let few : level (atom_at list at) < 16 = level_few (atom_at list at) e in omega arith
    by false e rest = rest

-- ---- the places of a list, one by one

places_length : (before list : List Atom) → length (places_behind before list) ≡ length list
places_length before [] = refl
places_length before (a ∷ list) = ap (λ v. suc v) (places_length (before ++ a ∷ []) list)

places_at : (before list : List Atom) (at : ℕ) (place : Place) → slice_get (places_behind before list) at ≡ Some place → (at < length list) × (place ≡ place_of (before ++ take at list) (get_or list at []))
places_at before [] at place e = cc
places_at before (a ∷ list) zero place e = let same : place ≡ place_of before a = cc in (omega arith, same ∙ ap (λ v. place_of v a) (sym (append-nil before)))
places_at before (a ∷ list) (suc at) place e =
    let rest = places_at (before ++ a ∷ []) list at place e in
    (omega (arith, rest.0), rest.1 ∙ ap (λ v. place_of v (get_or list at [])) (append_assoc before (a ∷ []) (take at list)))

zeros : (count i : ℕ) → ◌≡◌ {A = ℕ} (get_or (replicate count 0) i 0) 0
zeros zero i = refl
zeros (suc count) zero = refl
zeros (suc count) (suc i) = zeros count i

depth_from-more : (depth : ℕ) (list : List Atom) (a : Atom) → depth_from depth (list ++ a ∷ []) ≡ cond (is_header a) (level a + 1) (depth_from depth list)
depth_from-more depth [] a = refl
depth_from-more depth (x ∷ list) a = depth_from-more (cond (is_header x) (level x + 1) depth) list a

-- As many headers are open as the path has.
depth_is : (list : List Atom) → IsWellFormed list → (at : ℕ) → at ≤ length list → depth_behind (take at list) ≡ header_count (path_before list at)
depth_is list w zero within = refl
depth_is list w (suc at) within =
    let next : suc at ≡ at + 1 = omega arith in
    let here : at < length list = omega arith in
    ap (λ n. depth_behind (take n list)) next ∙ ap depth_behind (take_more list at [] here) ∙ depth_from-more 0 (take at list) (atom_at list at)
    ∙ ap (cond (is_header (atom_at list at)) (level (atom_at list at) + 1)) (depth_is list w at (omega arith))
    ∙ sym (header_count-next list at w here) ∙ ap (λ n. header_count (path_before list n)) (sym next)

module _ (list : List Atom) (w : IsWellFormed list) (at : ℕ) (within : at < length list) where
  few_around : headers_around (path_before list at) (atom_at list at) ≤ header_count (path_before list at)
  few_around = by (is_header (atom_at list at)) refl
    where
      by : (b : Bool) → is_header (atom_at list at) ≡ b → cond b (level (atom_at list at)) (header_count (path_before list at)) ≤ header_count (path_before list at)
      by true e = (fits_at list at w within).level e
      by false e = omega arith

  long : (count : ℕ) → length (nearest_places count (take at list)) ≡ count
  long count = length-map-range_with_len (nearest_place (take at list)) 0 count

  padded_below : (count n : ℕ) → n < count → get_or (padded (nearest_places count (take at list))) n 0 ≡ nearest_place (take at list) n
  padded_below count n below =
      get_or_append_left (nearest_places count (take at list)) (replicate (16 - length (nearest_places count (take at list))) 0) 0 n (omega (arith, long count))
      ∙ get_or-map-range_with_len (nearest_place (take at list)) 0 count n n 0 below (omega arith)

  padded_above : (count n : ℕ) → count ≤ n → get_or (padded (nearest_places count (take at list))) n 0 ≡ 0
  padded_above count n upto =
      get_or-append_right (nearest_places count (take at list)) (replicate (16 - length (nearest_places count (take at list))) 0) count n 0 (long count) upto
      ∙ zeros (16 - length (nearest_places count (take at list))) (n - count)

  pub place_found : IsPlaceAt list at (place_of (take at list) (atom_at list at))
  place_found = record {
    number = length-take-le at list (omega arith);
    few = omega (arith, few_around, open_few list w at (omega arith));
    header = λ e. ap (λ b. cond b (level (atom_at list at)) (header_count (path_before list at))) e;
    other = λ e. ap (λ b. cond b (level (atom_at list at)) (header_count (path_before list at))) e ∙ sym (depth_is list w at (omega arith));
    nearest = λ n below. subst (IsNearestPlace list at n) (sym (padded_below (headers_around (path_before list at) (atom_at list at)) n below)) (open_nearest list w at n (omega arith) (omega (arith, few_around)));
    others = λ n upto. padded_above (headers_around (path_before list at) (atom_at list at)) n upto;
  }

pub walks_find_nearest : WalksFindNearest
walks_find_nearest list w = record {
  whole = places_length [] list;
  each = λ at place e. (
      let found = places_at [] list at place e in
      subst (IsPlaceAt list at) (sym found.1) (place_found list w at found.0)
      );
}
