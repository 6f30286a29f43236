-- Which data of a part normal form takes away, by the places of the others.
use Rattle.std.specs.Prelude.{◌≡◌, ℕ, ◌<◌, ◌≤◌, List}
use Rattle.context_model.specs.Atoms.{Atom}
use Rattle.context_model.specs.Orders.{Path}
use Rattle.context_model.specs.Paths.{path_at}
use Rattle.bag_model.specs.Readings.{PathsOf, datum_path}
use Rattle.bag_model.specs.NormalForm.{Keeping, GivesWay}
use Rattle.bag_walks.specs.Gathering.{IsDatumAt}

-- The atom at this place is a datum of q that gives way to another one of q.
pub record GoesAt (keep : Keeping) (list : List Atom) (q : Path) (place : ℕ) : Type 0 where
  pub mine : List ℕ
  pub other : List ℕ
  pub is : path_at list place ≡ datum_path q mine
  pub stands : PathsOf list (datum_path q other)
  pub way : GivesWay keep mine other

-- A datum is at this place, and an earlier one from a place on.
pub record IsLater (list : List Atom) (from place : ℕ) : Type 0 where
  pub datum : IsDatumAt list place
  pub earlier : ℕ
  pub from_on : from ≤ earlier
  pub before : earlier < place
  pub first : IsDatumAt list earlier

-- A datum is at this place, and a later one up to a place.
pub record IsEarlier (list : List Atom) (to place : ℕ) : Type 0 where
  pub datum : IsDatumAt list place
  pub later : ℕ
  pub behind : place < later
  pub up_to : later < to
  pub last : IsDatumAt list later
