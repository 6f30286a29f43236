-- Nodes that stay in their component, and the first node that reaches itself.
use Rattle.std.specs.Prelude.{◌≡◌, ℕ, Bool, true, false, List, Option, Some, None, slice_index}
use Rattle.topological_order.specs.Graphs.{EdgeLists, HasEdge, LeadsTo}
use Rattle.topological_order.specs.Orders.{IsFirstCyclic}

-- Where the answer is no, the node has no edge to a node of its number.
abbrev pub Stays : EdgeLists → List ℕ → ℕ → Bool → Type 0
Stays graph numbers node true = Unit
Stays graph numbers node false = (to : ℕ) → HasEdge graph node to
    → slice_index numbers to ≡ slice_index numbers node → ⊥

-- The first node that reaches itself, or none where none does.
abbrev pub IsFirstInCycle : EdgeLists → Option ℕ → Type 0
IsFirstInCycle graph (Some node) = IsFirstCyclic graph node
IsFirstInCycle graph None = (node : ℕ) → LeadsTo graph node node → ⊥
