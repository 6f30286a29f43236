-- The slots that a service knows.
use Rattle.std.specs.Prelude.{ℕ, List}
use Rattle.context_model.specs.Orders.{IsIn}

-- All slots, none, or those with these numbers.
pub data View : Type 0 where
  All : View
  Nothing : View
  Only : List ℕ → View

-- A service with the view knows the slot with this number.
abbrev pub Knows : View → ℕ → Type 0
Knows All slot = Unit {0}
Knows Nothing slot = ⊥
Knows (Only slots) slot = IsIn slot slots
