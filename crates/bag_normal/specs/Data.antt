-- Places that a walk through a list gathers.
use Rattle.std.specs.Prelude.{◌⊎◌, ◌↔◌, ℕ, ◌<◌, ◌≤◌, List}
use Rattle.std.specs.Ordering.{nat_cmp}
use Rattle.context_model.specs.Atoms.{Atom}
use Rattle.context_model.specs.Orders.{IsIn, Rises}
use Rattle.bag_walks.specs.Gathering.{IsDatumAt}

-- The places rise, and all are before this one.
pub record RisesUpTo (gone : List ℕ) (to : ℕ) : Type 0 where
  pub rises : Rises nat_cmp gone
  pub before : (place : ℕ) → IsIn place gone → place < to

-- The places after are those before, and exactly those that P holds of.
pub record AddsPlaces (P : ℕ → Type 0) (before after : List ℕ) : Type 0 where
  pub exact : (place : ℕ) → IsIn place after ↔ (IsIn place before ⊎ P place)

-- A datum is at this place, which lies from the first place up to the second.
pub record IsDatumBetween (list : List Atom) (from to place : ℕ) : Type 0 where
  pub from_on : from ≤ place
  pub up_to : place < to
  pub datum : IsDatumAt list place
