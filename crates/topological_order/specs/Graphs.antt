-- Graphs, by the nodes to which the edges of each node lead.
use Rattle.std.specs.Prelude.{◌≡◌, ℕ, ◌<◌, ◌⊎◌, List, [], map, length, Some, All, Contains, slice_get, slice_index_or}
use Rattle.std.specs.declared.vec.Vec.{Vec}
use Rattle.std.specs.declared.alloc.Global.{Global}

-- For each node, numbered from 0 on, the nodes to which its edges lead.
abbrev pub EdgeLists : Type 0
EdgeLists = List (List ℕ)

-- The graph that the code has.
abbrev pub edge_lists_of : List (Vec ℕ Global) → EdgeLists
edge_lists_of rows = map (λ row. row.items) rows

-- The nodes to which a node's edges lead.
abbrev pub row_of : EdgeLists → ℕ → List ℕ
row_of graph node = slice_index_or graph node []

-- There is an edge from the first node to the second.
pub record HasEdge (graph : EdgeLists) (from to : ℕ) : Type 0 where
  pub row : List ℕ
  pub is : slice_get graph from ≡ Some row
  pub leads : Contains row to

-- Each edge leads to a node.
abbrev pub IsClosed : EdgeLists → Type 0
IsClosed graph = All (All (λ to. to < length graph)) graph

-- Along one edge or several the second node is reached from the first.
pub data LeadsTo (graph : EdgeLists) : ℕ → ℕ → Type 0 where
  by_edge : (from to : ℕ) → HasEdge graph from to → LeadsTo graph from to
  by_walk : (from next to : ℕ) → HasEdge graph from next → LeadsTo graph next to
      → LeadsTo graph from to

-- The one node is the other, or reaches it.
abbrev pub ReachesOrIs : EdgeLists → ℕ → ℕ → Type 0
ReachesOrIs graph from to = (from ≡ to) ⊎ LeadsTo graph from to
