-- The order of a graph's nodes, or the first node that reaches itself.
use Rattle.std.specs.Prelude.{◌≡◌, ℕ, ◌<◌, List, length, take, Some, Contains, slice_get}
use Rattle.topological_order.specs.declared.Sorted.{Sorted}
use Rattle.topological_order.specs.declared.Sorted.TheVariants.{Order, Cycle}
use Rattle.topological_order.specs.Graphs.{EdgeLists, HasEdge, LeadsTo}

-- Each node is in the list once, and after all nodes to which its edges lead.
pub record IsOrder (graph : EdgeLists) (order : List ℕ) : Type 0 where
  pub all : (node : ℕ) → node < length graph → Contains order node
  pub once : length order ≡ length graph
  pub behind : (place node next : ℕ) → slice_get order place ≡ Some node → HasEdge graph node next
      → Contains (take place order) next

-- The node reaches itself, and none with a lesser number does.
pub record IsFirstCyclic (graph : EdgeLists) (node : ℕ) : Type 0 where
  pub cyclic : LeadsTo graph node node
  pub first : (other : ℕ) → other < node → LeadsTo graph other other → ⊥

-- What is said of a graph is so.
abbrev pub IsSorted : EdgeLists → Sorted → Type 0
IsSorted graph (Order order) = IsOrder graph order.items
IsSorted graph (Cycle node) = IsFirstCyclic graph node
