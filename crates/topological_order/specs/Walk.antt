-- The state of a depth-first walk over a graph.
use Rattle.std.specs.Prelude.{◌≡◌, ℕ, ◌+◌, ◌-◌, ◌<◌, ◌≤◌, Bool, true, false, if◌then◌else◌, ◌⊎◌, List, [], ◌∷◌, ◌++◌, length, take, Some, None, Contains, slice_get, slice_index, slice_index_or, slice_set, count_by}
use Rattle.topological_order.specs.declared.walk.Mark.{Mark}
use Rattle.topological_order.specs.declared.walk.Mark.TheVariants.{New, Open, Done}
use Rattle.topological_order.specs.declared.walk.Walk.{Walk}
use Rattle.topological_order.specs.Graphs.{EdgeLists, edge_lists_of, row_of, HasEdge, IsClosed, LeadsTo, ReachesOrIs}

-- What a walk has met so far: the fields of the code's walk, as lists.
pub record Trail : Type 0 where
  pub graph : EdgeLists
  pub marks : List Mark
  pub followed : List ℕ
  pub path : List ℕ
  pub order : List ℕ

-- What the code's walk has met so far.
abbrev pub trail_of : Walk → Trail
trail_of w = record {
  graph = edge_lists_of w.graph.now;
  marks = w.marks.items;
  followed = w.followed.items;
  path = w.path.items;
  order = w.order.items;
}

-- The mark of a node.
abbrev pub mark_of : List Mark → ℕ → Mark
mark_of marks node = slice_index_or marks node New

-- Whether a node wasn't met yet.
abbrev pub is_new : Mark → Bool
is_new New = true
is_new Open = false
is_new Done = false

-- A walk between two steps. Open nodes are on the path, each of which reaches those after it.
-- Followed edges lead to nodes that were met, and all edges of a node that is done were followed.
-- Such a node is in the order after each node that its edges lead to, except those that reach it.
pub record IsGraphWalk (s : Trail) : Type 0 where
  pub whole : IsClosed s.graph
  pub all_marked : length s.marks ≡ length s.graph
  pub all_counted : length s.followed ≡ length s.graph
  pub on_path : (node : ℕ) → mark_of s.marks node ≡ Open → Contains s.path node
  pub opens : (place : ℕ) → place < length s.path
      → mark_of s.marks (slice_index s.path place) ≡ Open
  pub apart : (i j : ℕ) → i < j → j < length s.path → slice_index s.path i ≡ slice_index s.path j
      → ⊥
  pub linked : (i j : ℕ) → i < j → j < length s.path
      → LeadsTo s.graph (slice_index s.path i) (slice_index s.path j)
  pub in_order : (node : ℕ) → mark_of s.marks node ≡ Done → Contains s.order node
  pub all_done : (node : ℕ) → Contains s.order node → mark_of s.marks node ≡ Done
  pub ended : (node : ℕ) → mark_of s.marks node ≡ Done
      → length (row_of s.graph node) ≤ slice_index s.followed node
  pub meets : (node edge to : ℕ) → edge < slice_index s.followed node
      → slice_get (row_of s.graph node) edge ≡ Some to
      → mark_of s.marks to ≡ New → ⊥
  pub counted : length s.order + length s.path + count_by is_new s.marks ≡ length s.graph
  pub behind : (place node next : ℕ) → slice_get s.order place ≡ Some node
      → HasEdge s.graph node next
      → Contains (take place s.order) next ⊎ LeadsTo s.graph next node

-- A walk with no open node.
pub record IsAtRest (s : Trail) : Type 0 where
  pub walk : IsGraphWalk s
  pub path : length s.path ≡ 0

-- A walk that has met no node yet.
pub record IsBegun (s : Trail) : Type 0 where
  pub rests : IsAtRest s
  pub order : length s.order ≡ 0
  pub fresh : (node : ℕ) → mark_of s.marks node ≡ New

-- A node is put on the path.
abbrev pub opened : Trail → ℕ → Trail
opened s node = record s { marks = slice_set s.marks node Open; path = s.path ++ node ∷ [] }

-- A node is put on the path if it is new.
abbrev pub met : Trail → ℕ → Trail
met s node = if is_new (mark_of s.marks node) then opened s node else s

-- One more edge of a node is followed.
abbrev pub counted : Trail → ℕ → Trail
counted s node = record s { followed = slice_set s.followed node (slice_index s.followed node + 1) }

-- The last node on the path is done.
abbrev pub finished : Trail → ℕ → Trail
finished s node = record s {
  marks = slice_set s.marks node Done;
  path = take (length s.path - 1) s.path;
  order = s.order ++ node ∷ [];
}

-- The edges that were not followed yet.
abbrev pub edges_left : EdgeLists → List ℕ → ℕ
edges_left [] followed = 0
edges_left (row ∷ rows) [] = 0
edges_left (row ∷ rows) (edge ∷ edges) = length row - edge + edges_left rows edges

-- What is left to be done.
abbrev pub effort : Trail → ℕ
effort s = edges_left s.graph s.followed + count_by is_new s.marks + length s.path

-- The last node on the path.
abbrev pub IsTop : Trail → ℕ → Type 0
IsTop s node = slice_get s.path (length s.path - 1) ≡ Some node

-- The next edge of the last node on the path leads to that node.
pub record IsAtEdge (s : Trail) (node to : ℕ) : Type 0 where
  pub walk : IsGraphWalk s
  pub top : IsTop s node
  pub edge : slice_get (row_of s.graph node) (slice_index s.followed node) ≡ Some to

-- The last node on the path has no further edge.
pub record IsAtEnd (s : Trail) (node : ℕ) : Type 0 where
  pub walk : IsGraphWalk s
  pub top : IsTop s node
  pub edge : slice_get (row_of s.graph node) (slice_index s.followed node) ≡ None

-- An open node has an edge to the node.
pub record IsLedTo (s : Trail) (node : ℕ) : Type 0 where
  pub from : ℕ
  pub is_open : mark_of s.marks from ≡ Open
  pub edge : HasEdge s.graph from node

-- An open node came to the end of the order, or none did.
abbrev pub Orders : Trail → List ℕ → Type 0
Orders s order = (order ≡ s.order) ⊎
    ((node : ℕ) × (mark_of s.marks node ≡ Open) × (order ≡ s.order ++ node ∷ []))

-- The state after one step.
pub record Follows (s t : Trail) : Type 0 where
  pub graph : t.graph ≡ s.graph
  pub walk : IsGraphWalk t
  pub less : effort t < effort s
  pub kept : (node : ℕ) → mark_of t.marks node ≡ New → mark_of s.marks node ≡ New
  pub done : (node : ℕ) → mark_of s.marks node ≡ Done → mark_of t.marks node ≡ Done
  pub led : (node : ℕ) → mark_of s.marks node ≡ New → (mark_of t.marks node ≡ New → ⊥)
      → IsLedTo s node
  pub order : Orders s t.order

-- The state after steps from a new node: all that was met in them is reached from it, and what they
-- put at the end of
-- the order was new.
pub record IsWalkedFrom (s t : Trail) (root : ℕ) : Type 0 where
  pub graph : t.graph ≡ s.graph
  pub walk : IsGraphWalk t
  pub here : mark_of t.marks root ≡ New → ⊥
  pub kept : (node : ℕ) → mark_of t.marks node ≡ New → mark_of s.marks node ≡ New
  pub done : (node : ℕ) → mark_of s.marks node ≡ Done → mark_of t.marks node ≡ Done
  pub reached : (node : ℕ) → mark_of s.marks node ≡ New → (mark_of t.marks node ≡ New → ⊥)
      → ReachesOrIs s.graph root node
  pub part : List ℕ
  pub order : t.order ≡ s.order ++ part
  pub fresh : (node : ℕ) → Contains part node → mark_of s.marks node ≡ New

-- Each node is in the list once, and after each node that its edges lead to, except those that
-- reach it.
pub record IsFinishingOrder (graph : EdgeLists) (order : List ℕ) : Type 0 where
  pub nodes : (place node : ℕ) → slice_get order place ≡ Some node → node < length graph
  pub all : (node : ℕ) → node < length graph → Contains order node
  pub once : length order ≡ length graph
  pub behind : (place node next : ℕ) → slice_get order place ≡ Some node → HasEdge graph node next
      → Contains (take place order) next ⊎ LeadsTo graph next node
