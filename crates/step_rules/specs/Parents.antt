-- Where the lists of a step's parents are.
use Rattle.std.specs.Prelude.{◌≡◌, ℕ, ◌<◌, List, length}
use Rattle.context_model.specs.Orders.{IsIn}
use Rattle.trace_model.specs.Runs.{Lists}

-- The numbers are places of the lists.
abbrev pub AreWithinLists : Lists → List ℕ → Type 0
AreWithinLists lists places = (place : ℕ) → IsIn place places → place < length lists

-- The numbers are places of the lists, one for each parent.
pub record ArePlacesOf (parents : List ℕ) (lists : Lists) (places : List ℕ) : Type 0 where
  pub as_many : length places ≡ length parents
  pub within : AreWithinLists lists places
