-- Bytes that are written as a field of a struct: a zero byte is followed by 255, and 0 and 1 are at
-- the end.
use Rattle.std.specs.Prelude.{◌≡◌, ◌≢◌, ℕ, Bool, true, false, if◌then◌else◌, List, ◌∷◌, ◌++◌, All, IsUtf8}

-- The byte isn't zero.
abbrev pub IsNonzero : ℕ → Type 0
IsNonzero b = b ≢ 0

-- The bytes up to the first zero byte, whether the field ends there, and what follows the byte
-- after the zero.
pub record IsEscapedRun (bytes run : List ℕ) (last : Bool) (rest : List ℕ) : Type 0 where
  pub nonzero : All IsNonzero run
  pub same : bytes ≡ run ++ 0 ∷ (if last then 1 else 255) ∷ rest

-- A text is valid UTF-8, and a byte string is anything.
abbrev pub FitsOpen : Bool → List ℕ → Type 0
FitsOpen true bytes = IsUtf8 bytes
FitsOpen false bytes = Unit {0}
