-- What a reader answers.
use Rattle.std.specs.Prelude.{Option, None, Some}

-- The answer is something of which the fact holds, or none where it holds of nothing.
abbrev pub IsSomeOf : {A : Type 0} → (A → Type 0) → Option A → Type 0
IsSomeOf holds (Some a) = holds a
IsSomeOf {A} holds None = (a : A) → holds a → ⊥
