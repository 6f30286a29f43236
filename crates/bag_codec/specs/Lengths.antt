-- Room for bytes.
use Rattle.std.specs.Prelude.{◌≡◌, ℕ, ◌+◌, ◌<◌, Option, None, Some}

-- What is left of the room, which is the first number, after the second is taken; none where more
-- is taken than there is.
abbrev pub Leaves : ℕ → ℕ → Option ℕ → Type 0
Leaves room taken None = room < taken
Leaves room taken (Some left) = taken + left ≡ room
