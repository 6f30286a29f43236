-- Graphs with their edges turned round, and numbers of components.
use Rattle.std.specs.Prelude.{◌≡◌, ℕ, ◌≤◌, List, length, Contains, slice_index}
use Rattle.topological_order.specs.Graphs.{EdgeLists, HasEdge, IsClosed}

-- The other graph has the same nodes, and the edges turned round.
pub record IsTurned (graph turned : EdgeLists) : Type 0 where
  pub nodes : length turned ≡ length graph
  pub closed : IsClosed turned
  pub edges : (from to : ℕ) → HasEdge graph from to → HasEdge turned to from

-- The edges from a node to those nodes were turned round, and put into the graph.
pub record IsTurnedAt (before after : EdgeLists) (from : ℕ) (row : List ℕ) : Type 0 where
  pub nodes : length after ≡ length before
  pub closed : IsClosed after
  pub kept : (node to : ℕ) → HasEdge before node to → HasEdge after node to
  pub added : (to : ℕ) → Contains row to → HasEdge after to from

-- Nodes have that number, and the others the one that they had.
pub record AreNumbered (nodes : List ℕ) (component : ℕ) (before after : List ℕ) : Type 0 where
  pub same_length : length after ≡ length before
  pub here : (node : ℕ) → Contains nodes node → slice_index after node ≡ component
  pub others : (node : ℕ) → (Contains nodes node → ⊥)
      → slice_index after node ≡ slice_index before node

-- Each node has a number, and no edge leads to a lesser one.
pub record IsNumbered (graph : EdgeLists) (numbers : List ℕ) : Type 0 where
  pub all : length numbers ≡ length graph
  pub rises : (from to : ℕ) → HasEdge graph from to
      → slice_index numbers from ≤ slice_index numbers to
