-- What is at a place of a list, as loops read it.
use Rattle.std.proofs.Common.{◌≡◌, ℕ, ◌<◌, List, length, map, get_or, Option, Some, sym, ap, ◌∙◌}
use Rattle.std.specs.List.{slice_get}
use Rattle.std.specs.Option.{option_map}
use Rattle.std.proofs.lemmas.Option.{slice_get-map, slice_get-get_or}

-- What a list answers at a place.
pub answered : {A B : Type 0} (f : A → B) (answer : Option A) (a : A) (xs : List B) (at : ℕ)
    → option_map f answer ≡ slice_get xs at → answer ≡ Some a → slice_get xs at ≡ Some (f a)
answered f answer a xs at is found = sym is ∙ ap (option_map f) found

-- The item of a slice that is seen as the list.
pub seen : {A B : Type 0} (f : A → B) (items : List A) (a : A) (xs : List B) (at : ℕ)
    → map f items ≡ xs → at < length items → a ≡ get_or items at a → slice_get xs at ≡ Some (f a)
seen f items a xs at view within is =
    ap (λ l. slice_get l at) (sym view) ∙ slice_get-map f items at
    ∙ ap (option_map f) (slice_get-get_or items at a within ∙ ap Some (sym is))

-- Its text.
pub mapped : {A B : Type 0} (g : A → B) (xs : List A) (at : ℕ) (a : A) → slice_get xs at ≡ Some a → slice_get (map g xs) at ≡ Some (g a)
mapped g xs at a is = slice_get-map g xs at ∙ ap (option_map g) is
