-- What a walk knows of the data after a path.
use Rattle.std.specs.Prelude.{ℕ, List}
use Rattle.context_model.specs.Orders.{Path}
use Rattle.bag_model.specs.Readings.{datum_path}
use Rattle.bag_model.specs.Typed.{IsCount}

-- Each datum at q is the spelling of a count of 64 bits.
abbrev pub AreCountsAt : (Path → Type 0) → Path → Type 0
AreCountsAt P q = (payload : List ℕ) → P (datum_path q payload) → IsCount payload
