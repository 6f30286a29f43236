-- What a loop knows of a field that is compared with the headers that are open, and of the first marker.
use Rattle.std.proofs.Common.{◌≡◌, ℕ, zero, suc, ◌+◌, ◌<◌, ◌≤◌, ◌⊎◌, ◌↔◌, inl, inr, true, false, List, [], ◌∷◌, ◌++◌, length, map, take, drop, get_or, slice_get, Some, Less, Equal, Greater, refl, sym, ◌∙◌, ap, subst, subst₂, arith, add-one}
use Rattle.std.proofs.lemmas.Cmp.{tied_itself}
use Rattle.std.proofs.lemmas.List.{drop_more, drop_all, map_push, take-map, length-take-le}
use Rattle.std.proofs.lemmas.Option.{slice_get_within, slice_get-get_or}
use Rattle.context_model.specs.Atoms.{Atom}
use Rattle.context_model.specs.Kinds.{atom_of}
use Rattle.context_model.specs.Kinds.Kind.{Indexed}
use Rattle.context_model.specs.Orders.{Path, atom_cmp}
use Rattle.context_model.specs.Paths.{is_header, level, header_count, path_after, last_path_after}
use Rattle.context_model.specs.WellFormed.{IsWellFormed}
use Rattle.context_model.specs.Ended.{IsBeyond, IsEnded, field_path_from}
use Rattle.context_model.proofs.Following.{header_count-length}
use Rattle.context_model.proofs.OrderLaws.{atoms_total, atoms_anti}
use Rattle.context_model.proofs.Beyond.{beyond_none, beyond_all, beyond_less, beyond_same, beyond_cases, headers_of}
use Rattle.context_model.proofs.EndedLaws.{EndsByCases, IsEnded-markers}
use Rattle.context_model.proofs.HeadersAfter.{headers_after-other, headers_after-header}
use Rattle.context_model.proofs.Places.{last_path_after-more, front_of-take, IsEnded-at, marker_place}
use Rattle.atom_list.specs.OpenPlaces.{atom_at, path_before}
use Rattle.atom_list.proofs.Walking.{path_next, fits_at}

-- ---- a field, header by header

pub field_at : (n : ℕ) (numbers : List ℕ) (k : ℕ) → k < length numbers → get_or (field_path_from n numbers) k [] ≡ atom_of (Indexed (n + k) (get_or numbers k 0))
field_at n [] k below = absurd (omega arith)
field_at n (number ∷ numbers) zero below = let e : n ≡ n + 0 = omega arith in ap (λ v. atom_of (Indexed v number)) e
field_at n (number ∷ numbers) (suc k) below = field_at (suc n) numbers k (omega arith) ∙ (let e : suc n + k ≡ n + suc k = omega arith in ap (λ v. atom_of (Indexed v (get_or numbers k 0))) e)

module _ (s h : Path) (n : ℕ) (x a : Atom) where
  -- both paths have more than n atoms, and these are those at n
  pub record Stand : Type 0 where
    pub in_field : n < length s
    pub in_headers : n < length h
    pub field_atom : get_or s n [] ≡ x
    pub header_atom : get_or h n [] ≡ a

  whole_field : Stand → drop n s ≡ x ∷ drop (n + 1) s
  whole_field stand = drop_more s n [] stand.in_field ∙ ap (λ v. v ∷ drop (n + 1) s) stand.field_atom

  whole_headers : Stand → drop n h ≡ a ∷ drop (n + 1) h
  whole_headers stand = drop_more h n [] stand.in_headers ∙ ap (λ v. v ∷ drop (n + 1) h) stand.header_atom

  pub beyond_by_less : Stand → Less ≡ atom_cmp x a → IsBeyond (drop n s) (drop n h)
  beyond_by_less stand e = subst₂ IsBeyond (sym (whole_field stand)) (sym (whole_headers stand)) (beyond_less x a (drop (n + 1) s) (drop (n + 1) h) (sym e))

  pub not_by_greater : Stand → Greater ≡ atom_cmp x a → IsBeyond (drop n s) (drop n h) → ⊥
  not_by_greater stand e beyond = by (beyond_cases x a (drop (n + 1) s) (drop (n + 1) h) (subst₂ IsBeyond (whole_field stand) (whole_headers stand) beyond))
    where
      by : (atom_cmp x a ≡ Less) ⊎ ((x ≡ a) × IsBeyond (drop (n + 1) s) (drop (n + 1) h)) → ⊥
      by (inl less) = let clash : Greater ≡ Less = e ∙ less in cc
      by (inr both) = let clash : Greater ≡ Equal = e ∙ ap (atom_cmp x) (sym both.0) ∙ tied_itself atoms_total x in cc

  pub beyond_by_equal : Stand → Equal ≡ atom_cmp x a → IsBeyond (drop (n + 1) s) (drop (n + 1) h) ↔ IsBeyond (drop n s) (drop n h)
  beyond_by_equal stand e = (
    λ beyond. subst₂ IsBeyond (sym (whole_field stand)) (sym (whole_headers stand))
        (subst (λ v. IsBeyond (x ∷ drop (n + 1) s) (v ∷ drop (n + 1) h)) (atoms_anti x a (sym e)) (beyond_same x (drop (n + 1) s) (drop (n + 1) h) beyond)),
    λ beyond. by (beyond_cases x a (drop (n + 1) s) (drop (n + 1) h) (subst₂ IsBeyond (whole_field stand) (whole_headers stand) beyond)),
  )
    where
      by : (atom_cmp x a ≡ Less) ⊎ ((x ≡ a) × IsBeyond (drop (n + 1) s) (drop (n + 1) h)) → IsBeyond (drop (n + 1) s) (drop (n + 1) h)
      by (inl less) = let clash : Equal ≡ Less = e ∙ less in cc
      by (inr both) = both.1

-- nothing is beyond where one of them ends
pub not_at_end : (s h : Path) (n : ℕ) → (length s ≤ n) ⊎ (length h ≤ n) → IsBeyond (drop n s) (drop n h) → ⊥
not_at_end s h n (inl few) beyond = beyond_all (drop n h) (subst (λ v. IsBeyond v (drop n h)) (drop_all n s few) beyond)
not_at_end s h n (inr few) beyond = beyond_none (drop n s) (subst (IsBeyond (drop n s)) (drop_all n h few) beyond)

-- ---- the first marker

beyond_at : (q : Path) (list : List Atom) (s : Path) (at : ℕ) → ((k : ℕ) → k < at → slice_get list k ≡ Some [] → ⊥) → slice_get list at ≡ Some [] → EndsByCases q list s
    → IsBeyond s (last_path_after q (take at list))
beyond_at q [] s at unmarked marked ends = cc
beyond_at q ([] ∷ list) s zero unmarked marked ends = ends.0
beyond_at q ((b ∷ bytes) ∷ list) s zero unmarked marked ends = cc
beyond_at q ([] ∷ list) s (suc at) unmarked marked ends = absurd (unmarked zero (omega arith) refl)
beyond_at q ((b ∷ bytes) ∷ list) s (suc at) unmarked marked ends = beyond_at (path_after q (b ∷ bytes)) list s at (λ k below m. unmarked (suc k) (omega arith) m) marked ends

-- at the first marker a field is ended exactly where the path before is beyond it
pub ended_at_marker : (list : List Atom) (s : Path) (at : ℕ) → IsWellFormed list → at < length list → ((k : ℕ) → k < at → slice_get list k ≡ Some [] → ⊥) → slice_get list at ≡ Some []
    → IsEnded list s ↔ IsBeyond s (path_before list at)
ended_at_marker list s at w within unmarked marked = (λ ends. beyond_at [] list s at unmarked marked (IsEnded-markers list s w ends), from at within unmarked marked)
  where
    from : (at : ℕ) → at < length list → ((k : ℕ) → k < at → slice_get list k ≡ Some [] → ⊥) → slice_get list at ≡ Some [] → IsBeyond s (path_before list at) → IsEnded list s
    from zero within unmarked marked beyond = absurd (beyond_none s beyond)
    from (suc i) within unmarked marked beyond =
        let there : slice_get list i ≡ Some (atom_at list i) = slice_get-get_or list i [] (omega arith) in
        let path : path_before list (suc i) ≡ path_after (path_before list i) (atom_at list i) = ap (path_before list) (sym (add-one i)) ∙ last_path_after-more [] list i (atom_at list i) there in
        IsEnded-at list s (suc i) i (atom_at list i) (front_of-take list (suc i) unmarked (inl marked)) (omega arith) there (subst (IsBeyond s) path beyond)

-- where there is no marker each field is ended
pub ended_unmarked : (list : List Atom) (s : Path) → ((k : ℕ) → k < length list → slice_get list k ≡ Some [] → ⊥) → IsEnded list s
ended_unmarked list s unmarked = inl (λ marker. (let place = marker_place list marker in unmarked place.0 (slice_get_within list place.0 [] place.1) place.1))

-- ---- the headers that are open, one atom further

pub headers_length : (list : List Atom) (headers : List ℕ) (q : Path) → map (atom_at list) headers ≡ headers_of q → length headers ≡ header_count q
headers_length list headers q e = sym (length_map (atom_at list) headers) ∙ ap length e ∙ length-take-le (header_count q) q (header_count-length q)
  where
    length_map : (f : ℕ → Atom) (xs : List ℕ) → length (map f xs) ≡ length xs
    length_map f [] = refl
    length_map f (x ∷ xs) = ap (λ v. suc v) (length_map f xs)

pub open_other : (list : List Atom) (headers : List ℕ) (at : ℕ) → at < length list → is_header (atom_at list at) ≡ false → map (atom_at list) headers ≡ headers_of (path_before list at)
    → map (atom_at list) headers ≡ headers_of (path_before list (at + 1))
open_other list headers at within other e = e ∙ sym (ap headers_of (path_next list at within) ∙ headers_after-other (path_before list at) (atom_at list at) other)

pub open_header : (list : List Atom) (headers : List ℕ) (at : ℕ) → IsWellFormed list → at < length list → is_header (atom_at list at) ≡ true → map (atom_at list) headers ≡ headers_of (path_before list at)
    → map (atom_at list) (take (level (atom_at list at)) headers ++ at ∷ []) ≡ headers_of (path_before list (at + 1))
open_header list headers at w within header e =
    map_push (atom_at list) (take (level (atom_at list at)) headers) at
    ∙ ap (λ v. v ++ atom_at list at ∷ []) (sym (take-map (atom_at list) (level (atom_at list at)) headers) ∙ ap (take (level (atom_at list at))) e)
    ∙ sym (ap headers_of (path_next list at within) ∙ headers_after-header (path_before list at) (atom_at list at) header ((fits_at list at w within).level header))

pub within_push : (l : ℕ) (headers : List ℕ) (at n : ℕ) → ((k : ℕ) → k < length headers → get_or headers k 0 < n) → at < n → (k : ℕ) → k < length (take l headers ++ at ∷ []) → get_or (take l headers ++ at ∷ []) k 0 < n
within_push zero headers at n all here zero below = here
within_push zero headers at n all here (suc k) below = absurd (omega arith)
within_push (suc l) [] at n all here zero below = here
within_push (suc l) [] at n all here (suc k) below = absurd (omega arith)
within_push (suc l) (x ∷ headers) at n all here zero below = all zero (omega arith)
within_push (suc l) (x ∷ headers) at n all here (suc k) below = within_push l headers at n (λ i b. all (suc i) (omega arith)) here k (omega arith)
