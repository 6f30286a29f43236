-- Lists that grow and shrink at their end.
use Rattle.std.proofs.Common.{◌≡◌, ℕ, ◌+◌, ◌-◌, ◌<◌, ◌≤◌, List, [], ◌∷◌, ◌++◌, length, take, get_or, Some, None, refl, sym, ap, ◌∙◌, inl, inr, arith}
use Rattle.std.specs.List.{Contains, slice_get}
use Rattle.std.proofs.lemmas.List.{get_or_default, take_more, take_all}
use Rattle.std.proofs.lemmas.Option.{slice_get-get_or, slice_get_within, get_or_from_slice_get, slice_get_read}
use Rattle.std.proofs.lemmas.Bool.{cases_lt}

-- A list is all but its last element, and that.
pub top_split : (xs : List ℕ) (x : ℕ) → slice_get xs (length xs - 1) ≡ Some x → xs ≡ take (length xs - 1) xs ++ x ∷ []
top_split xs x top =
    let n = length xs - 1 in
    let within : n < length xs = slice_get_within xs n x top in
    let all : take (n + 1) xs ≡ xs = take_all (n + 1) xs (omega arith) in
    let last : get_or xs n x ≡ x = get_or_from_slice_get xs n x x top in
    sym all ∙ take_more xs n x within ∙ ap (λ y. take n xs ++ y ∷ []) last

-- An element below the length is in the list.
pub at_place : (xs : List ℕ) (k y : ℕ) → k < length xs → get_or xs k 0 ≡ y → Contains xs y
at_place xs k y l e = (k, l, get_or_default xs k y 0 l ∙ e)

-- An element of a list is at a place.
pub place_of : (xs : List ℕ) (y : ℕ) → Contains xs y → (k : ℕ) × (k < length xs) × (get_or xs k 0 ≡ y)
place_of xs y h = (h.0, h.1, get_or_default xs h.0 0 y h.1 ∙ h.2)

-- An element is got at its place.
pub got : (xs : List ℕ) (y : ℕ) (c : Contains xs y) → slice_get xs c.0 ≡ Some y
got xs y c = slice_get_read xs (length xs) c.0 y refl c.1 (sym c.2)

-- What a read gives, at the default 0.
pub read : (xs : List ℕ) (i x : ℕ) → i < length xs → x ≡ get_or xs i x → get_or xs i 0 ≡ x
read xs i x l e = get_or_default xs i 0 x l ∙ sym e

-- There is nothing past the end of a list.
pub none_past : (xs : List ℕ) (k : ℕ) → slice_get xs k ≡ None → length xs ≤ k
none_past xs k is = elim (cases_lt k (length xs)) [ inl l ↦ let some = slice_get-get_or xs k 0 l in (cc) | inr past ↦ past ]
