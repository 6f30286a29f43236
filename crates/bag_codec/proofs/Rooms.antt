-- How long the bytes of a struct's field are, byte by byte, and those of a struct, field by field.
use Rattle.std.proofs.Common.{◌≡◌, ℕ, ◌+◌, ◌<◌, List, ◌∷◌, length, map, drop, get_or, length-append, subst, arith}
use Rattle.std.specs.List.{flat_map}
use Rattle.std.proofs.lemmas.List.{drop_more, length-map}
use Rattle.context_model.proofs.MergeSteps.{drop-place}
use Rattle.bag_model.specs.declared.words.ScalarWord.TheVariants.{Bool as Boolean}
use Rattle.bag_model.specs.Scalars.{Word, escape, spelling_form_of, field_spelling, packed_spelling}
use Rattle.scalar_types.specs.Scalars.{plain_of}
use Rattle.scalar_types.specs.declared.scalars.Scalar.{Scalar}
use Rattle.scalar_types.proofs.PackedSteps.{Fit, fits-length}

-- How many bytes these are with their zero bytes escaped.
abbrev pub escaped : List ℕ → ℕ
escaped bytes = length (flat_map escape bytes)

-- How many bytes the fields of these words with these values are.
abbrev pub packed : List Word → List Scalar → ℕ
packed words scalars = length (packed_spelling words (map plain_of scalars))

abbrev pub field : Word → Scalar → ℕ
field word scalar = length (field_spelling (spelling_form_of word) (plain_of scalar))

pub packed-more : (word : Word) (words : List Word) (scalar : Scalar) (scalars : List Scalar)
    → packed (word ∷ words) (scalar ∷ scalars) ≡ field word scalar + packed words scalars
packed-more word words scalar scalars =
    length-append (field_spelling (spelling_form_of word) (plain_of scalar)) (packed_spelling words (map plain_of scalars))

-- There is a value for each word.
pub scalars_within : (words : List Word) (scalars : List Scalar) (at : ℕ) → Fit words scalars → at < length words → at < length scalars
scalars_within words scalars at fit within =
    let mapped : length words ≡ length (map plain_of scalars) = fits-length words (map plain_of scalars) fit in
    let same : length words ≡ length scalars = simp length-map at mapped in
    omega (arith, same, within)

-- The values that are left, from one on, are of the words that are left.
pub next_fits : (words : List Word) (scalars : List Scalar) (at : ℕ) (scalar : Scalar) → at < length words → at < length scalars → scalar ≡ get_or scalars at scalar
    → Fit (drop at words) (drop at scalars) → Fit (get_or words at Boolean ∷ drop (at + 1) words) (scalar ∷ drop (at + 1) scalars)
next_fits words scalars at scalar within also is fit =
    subst (λ (ws : List Word). Fit ws (scalar ∷ drop (at + 1) scalars)) (drop_more words at Boolean within)
    (subst (λ (vs : List Scalar). Fit (drop at words) vs) (drop-place scalars at scalar also is) fit)
