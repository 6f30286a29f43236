-- What a table doesn't name is never read.
use Rattle.std.specs.Prelude.{◌≢◌, List, []}
use Rattle.context_model.specs.Atoms.{Atom}
use Rattle.context_model.specs.Merged.{last_atom}
use Rattle.context_model.specs.Orders.{Path}
use Rattle.bag_model.specs.Encodings.{IsEncoding, IsForeign}
use Rattle.bag_model.specs.Readings.{PathsOf, SaysValues}
use Rattle.bag_model.specs.Shapes.{Nodes}
use Rattle.bag_model.specs.Values.{Values}

-- Each path of the first list that is neither a marker's nor foreign is a path of the second.
abbrev pub HasNamed : Nodes → List Atom → List Atom → Type 0
HasNamed nodes a b =
    (p : Path) → PathsOf a p → last_atom p ≢ [] → ¬ (IsForeign nodes a p) → PathsOf b p

-- Two lists that differ in foreign paths and markers alone say the same, and an encoding has no
-- foreign path.
pub record ForeignIsUnread : Type 0 where
  pub unread : (nodes : Nodes) (a b : List Atom) (vs : Values)
      → HasNamed nodes a b → HasNamed nodes b a → SaysValues nodes a vs → SaysValues nodes b vs
  pub none : (nodes : Nodes) (vs : Values) (list : List Atom) (p : Path)
      → IsEncoding nodes vs list → ¬ (IsForeign nodes list p)
