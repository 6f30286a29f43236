-- Which values fit the limit of bytes at any slot.
use Rattle.std.specs.Prelude.{◌≤◌, length}
use Rattle.context_model.specs.declared.TheConstants.{ATOM_MAX}
use Rattle.context_model.specs.Merged.{last_atom}
use Rattle.context_model.specs.Orders.{Path}
use Rattle.bag_model.specs.Encodings.{InLayout}
use Rattle.bag_model.specs.Shapes.{Shape}
use Rattle.bag_model.specs.Values.{Value}

-- Each atom of the layout of a value of this shape is within the limit, wherever the layout is.
abbrev pub FitsAnywhere : Shape → Value → Type 0
FitsAnywhere shape v = (q p : Path) → InLayout shape q v p → length (last_atom p) ≤ ATOM_MAX
