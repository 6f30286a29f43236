-- Words of a line, with one space between two of them, and what is taken from the start of a text.
use Rattle.std.specs.Prelude.{◌≡◌, ℕ, ◌<◌, ◌==◌, false, List, ◌∷◌, ◌++◌, length, Option, None, Some}
use Rattle.std.specs.Fmt.{decimal}
use Rattle.std.specs.List.{list_any}

-- No byte is this one.
abbrev pub IsFree : ℕ → List ℕ → Type 0
IsFree sep text = list_any (λ byte. byte == sep) text ≡ false

-- No byte is a space.
abbrev pub HasNoSpace : List ℕ → Type 0
HasNoSpace text = IsFree 32 text

-- A word has at least one byte, and none of them is a space.
abbrev pub IsOneWord : List ℕ → Type 0
IsOneWord text = (0 < length text) × HasNoSpace text

-- The text begins with this word and a space, and goes on with the rest.
abbrev pub IsCut : List ℕ → List ℕ → List ℕ → Type 0
IsCut text word rest = text ≡ word ++ 32 ∷ rest

-- What was taken from the start of a text, with the rest of the text, is the one pair of which the
-- fact holds; nothing was taken where it holds of none.
abbrev pub TakesOnly : {A : Type 0} → (A → List ℕ → Type 0) → Option (A × List ℕ) → Type 0
TakesOnly {A} holds (Some (a, rest)) =
    holds a rest × ((b : A) (other : List ℕ) → holds b other → (b ≡ a) × (other ≡ rest))
TakesOnly {A} holds None = (a : A) (rest : List ℕ) → holds a rest → ⊥

-- The text is that of a number below this one.
abbrev pub IsNumberBelow : ℕ → List ℕ → ℕ → Type 0
IsNumberBelow below text number = (number < below) × (text ≡ decimal number)

-- The text begins with a number below this one and a space.
abbrev pub NumberBelowThen : ℕ → List ℕ → ℕ → List ℕ → Type 0
NumberBelowThen below text number rest = (number < below) × IsCut text (decimal number) rest
