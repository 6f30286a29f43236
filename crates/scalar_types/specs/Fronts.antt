-- Bytes that begin with a value's spelling.
use Rattle.std.specs.Prelude.{◌≡◌, ℕ, List, ◌++◌}

-- The bytes are the spelling of a value that fits, and then the rest.
pub record Begins {V : Type 0} (fits : V → Type 0) (spelling : V → List ℕ) (bytes : List ℕ)
    (value : V) (rest : List ℕ) : Type 0 where
  pub fit : fits value
  pub same : spelling value ++ rest ≡ bytes

-- The bytes begin with the spelling of some value that fits.
abbrev pub BeginsWithSome : {V : Type 0} → (V → Type 0) → (V → List ℕ) → List ℕ → Type 0
BeginsWithSome {V} fits spelling bytes =
    (value : V) × ((rest : List ℕ) × Begins fits spelling bytes value rest)

-- What follows a spelling is determined.
abbrev pub OneRest : {V : Type 0} → (V → Type 0) → (V → List ℕ) → Type 0
OneRest {V} fits spelling =
    (v w : V) (s t : List ℕ) → fits v → fits w → spelling v ++ s ≡ spelling w ++ t → s ≡ t
