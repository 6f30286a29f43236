-- How a string's bytes go on.
use Rattle.std.proofs.Common.{◌≡◌, ℕ, ◌+◌, ◌<◌, ◌≤◌, List, ◌++◌, codes, length, length-append, get_or, take, sym, ◌∙◌, ap, arith}
use Rattle.std.proofs.lemmas.List.{take_more, flat_map_more}
use Rattle.std.proofs.lemmas.List.Folds.{length-flat_map-take}
use Rattle.std.specs.List.{flat_map}
use Rattle.text_model.specs.ScalarTexts.{escaped, quoted}

-- What stands before the next byte's place.
abbrev pub front_of : List ℕ → ℕ → List ℕ
front_of bytes i = codes "\"" ++ flat_map escaped (take i bytes)

-- The next byte comes after it.
pub front_more : (bytes : List ℕ) (i : ℕ) → i < length bytes → front_of bytes i ++ escaped (get_or bytes i 0) ≡ front_of bytes (i + 1)
front_more bytes i within =
    flat_map_more escaped (codes "\"") (take i bytes) (get_or bytes i 0) ∙ ap (λ (front : List ℕ). codes "\"" ++ flat_map escaped front) (sym (take_more bytes i 0 within))

-- One byte for the quotation mark at the end.
pub quoted_len : (bytes : List ℕ) → length (quoted bytes) ≡ 2 + length (flat_map escaped bytes)
quoted_len bytes = let one = length-append (flat_map escaped bytes) (codes "\"") in omega arith

-- The next byte has its place in the whole.
pub front_fits : (bytes : List ℕ) (i : ℕ) → i < length bytes → length (front_of bytes i) + length (escaped (get_or bytes i 0)) ≤ length (quoted bytes)
front_fits bytes i within = omega (arith, length-flat_map-take escaped bytes i 0 within, quoted_len bytes)
