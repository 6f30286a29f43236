-- What is taken from the beginning of a text.
use Rattle.std.specs.Prelude.{◌≡◌, ℕ, ◌==◌, ◌||◌, Bool, false, IsTrue, List, [], ◌∷◌, ◌++◌, Option, Some, None}

-- What was taken from the beginning of a text, with the rest of the text, is of the fact, or
-- nothing is.
abbrev pub TakesFront : {A : Type 0} → (A → List ℕ → Type 0) → Option (A × List ℕ) → Type 0
TakesFront holds (Some (a, rest)) = holds a rest
TakesFront {A} holds None = (a : A) (rest : List ℕ) → holds a rest → ⊥

-- The byte is a comma, a colon or a closing parenthesis.
abbrev pub is_stop : ℕ → Bool
is_stop byte = (byte == 44) || (byte == 58) || (byte == 41)

-- The byte is none of those.
abbrev pub IsNoStop : ℕ → Type 0
IsNoStop byte = is_stop byte ≡ false

-- A literal ends before a comma, a colon or a closing parenthesis, and at the end of the text.
abbrev pub IsEnd : List ℕ → Type 0
IsEnd [] = Unit {0}
IsEnd (byte ∷ bytes) = IsTrue (is_stop byte)

-- The text begins with a prefix of which the fact holds, and this rest ends it.
pub record BeginsWithOne (holds : List ℕ → Type 0) (text rest : List ℕ) : Type 0 where
  pub front : List ℕ
  pub fact : holds front
  pub same : text ≡ front ++ rest
  pub end : IsEnd rest
