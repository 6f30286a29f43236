-- What is read of a merge.
use Rattle.std.specs.Prelude.{◌≡◌, List, [], ◌∷◌}
use Rattle.std.specs.List.{AllByRecursion}
use Rattle.context_model.specs.Atoms.{Atom}
use Rattle.context_model.specs.Merged.{IsMerged}
use Rattle.bag_model.specs.Shapes.{Nodes}
use Rattle.bag_model.specs.Values.{Values}
use Rattle.bag_model.specs.Joins.{join_values}
use Rattle.bag_model.specs.Readings.{PathsOf, SaysValues}
use Rattle.bag_model.specs.Typed.{AreTyped}

-- A merge of typed lists is typed, a merge of two lists says the join of what they say, and a list
-- says one value alone.
pub record MergesReadAsJoins : Type 0 where
  pub typed : (nodes : Nodes) (lists : List (List Atom)) (merged : List Atom)
      → IsMerged lists merged → AllByRecursion (λ list. AreTyped nodes (PathsOf list) []) lists
      → AreTyped nodes (PathsOf merged) []
  pub joins : (nodes : Nodes) (a b merged : List Atom) (v w : Values)
      → IsMerged (a ∷ b ∷ []) merged → SaysValues nodes a v → SaysValues nodes b w
      → SaysValues nodes merged (join_values v w)
  pub one : (nodes : Nodes) (list : List Atom) (v w : Values)
      → SaysValues nodes list v → SaysValues nodes list w → v ≡ w
