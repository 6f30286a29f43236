-- What a codec says of its values: which fit, and how each that fits is spelled in bytes.
use Rattle.std.specs.Prelude.{◌≡◌, ℕ, List}

-- The value fits, and these bytes are its spelling.
pub record Spells {V : Type 0} (fits : V → Type 0) (spelling : V → List ℕ) (bytes : List ℕ)
    (value : V) : Type 0 where
  pub fit : fits value
  pub same : spelling value ≡ bytes

-- Some value that fits has this spelling.
abbrev pub IsSpelled : {V : Type 0} → (V → Type 0) → (V → List ℕ) → List ℕ → Type 0
IsSpelled {V} fits spelling bytes = (value : V) × Spells fits spelling bytes value

-- Two values that fit and have one spelling are one value.
abbrev pub OneValue : {V : Type 0} → (V → Type 0) → (V → List ℕ) → Type 0
OneValue {V} fits spelling = (v w : V) → fits v → fits w → spelling v ≡ spelling w → v ≡ w

-- Every value fits.
abbrev pub AlwaysFits : {V : Type 0} → V → Type 0
AlwaysFits value = Unit {0}
