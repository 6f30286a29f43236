-- Edges of a graph, and what they reach.
use Rattle.std.proofs.Common.{◌≡◌, ℕ, zero, suc, ◌^◌, ◌<◌, List, [], ◌∷◌, length, get_or, Some, refl, sym, ap, subst, ◌∙◌, inl, inr, arith}
use Rattle.std.specs.declared.alloc.Global.{Global}
use Rattle.std.specs.declared.vec.Vec.{Vec}
use Rattle.std.specs.List.{Contains, slice_get}
use Rattle.std.proofs.lemmas.List.{length-map, get_or-map}
use Rattle.std.proofs.lemmas.Option.{slice_get-get_or, slice_get_within, get_or_from_slice_get, slice_get_read}
use Rattle.topological_order.specs.Graphs.{EdgeLists, edge_lists_of, row_of, HasEdge, IsClosed, LeadsTo, by_edge, by_walk, ReachesOrIs}

-- An element of a row is an edge.
pub has_edge : (graph : EdgeLists) (node edge to : ℕ) → node < length graph → slice_get (row_of graph node) edge ≡ Some to → HasEdge graph node to
has_edge graph node edge to l is =
    let row = row_of graph node in
    record {
      row = row;
      is = slice_get-get_or graph node [] l;
      leads = (edge, slice_get_within row edge to is, get_or_from_slice_get row edge to to is);
    }

-- An edge is an element of a row.
pub edge_at : (graph : EdgeLists) (node to : ℕ) → HasEdge graph node to
    → (edge : ℕ) × (edge < length (row_of graph node)) × (slice_get (row_of graph node) edge ≡ Some to)
edge_at graph node to h =
    let same : row_of graph node ≡ h.row = get_or_from_slice_get graph node h.row [] h.is in
    let P : List ℕ → Type 0 = λ row. (edge : ℕ) × (edge < length row) × (slice_get row edge ≡ Some to) in
    let there : P h.row = (h.leads.0, h.leads.1, slice_get_read h.row (length h.row) h.leads.0 to refl h.leads.1 (sym h.leads.2)) in
    subst P (sym same) there

-- The row of a node has each node to which its edges lead.
pub edge_row : (graph : EdgeLists) (node to : ℕ) → HasEdge graph node to → Contains (row_of graph node) to
edge_row graph node to h =
    let P : List ℕ → Type 0 = λ row. Contains row to in
    subst P (sym (get_or_from_slice_get graph node h.row [] h.is)) h.leads

-- What the row of a node has is an edge.
pub row_edge : (graph : EdgeLists) (node to : ℕ) → node < length graph → Contains (row_of graph node) to → HasEdge graph node to
row_edge graph node to l c = record { row = row_of graph node; is = slice_get-get_or graph node [] l; leads = c }

-- The row that the code reads.
pub row_read : (rows : List (Vec ℕ Global)) (node : ℕ) (item : Vec ℕ Global) (items : List ℕ) → node < length rows
    → item ≡ get_or rows node item → items ≡ item.items → row_of (edge_lists_of rows) node ≡ items
row_read rows node item items l is same = get_or-map (λ row. row.items) rows node item [] l ∙ ap (λ row. row.items) (sym is) ∙ sym same

-- The edge that the code reads.
pub edge_read : (rows : List (Vec ℕ Global)) (node edge : ℕ) (item : Vec ℕ Global) (items : List ℕ) → node < length rows
    → item ≡ get_or rows node item → items ≡ item.items → edge < length items
    → slice_get (row_of (edge_lists_of rows) node) edge ≡ Some (get_or items edge 0)
edge_read rows node edge item items l is same m =
    ap (λ row. slice_get row edge) (row_read rows node item items l is same) ∙ slice_get-get_or items edge 0 m

-- An edge begins at a node.
pub from_within : (graph : EdgeLists) (node to : ℕ) → HasEdge graph node to → node < length graph
from_within graph node to h = slice_get_within graph node h.row h.is

-- An edge leads to a node.
pub to_within : (graph : EdgeLists) (node edge to : ℕ) → IsClosed graph → node < length graph
    → slice_get (row_of graph node) edge ≡ Some to → to < length graph
to_within graph node edge to whole l is =
    let row = row_of graph node in
    let P : ℕ → Type 0 = λ t. t < length graph in
    subst P (get_or_from_slice_get row edge to to is) (whole node [] l edge to (slice_get_within row edge to is))

-- The code's graph has as many nodes.
pub graph_length : (rows : List (Vec ℕ Global)) → length (edge_lists_of rows) ≡ length rows
graph_length rows = length-map rows (λ row. row.items)

-- The row of a node in the code's graph has a length that fits.
pub row_small : (rows : List (Vec ℕ Global)) (node : ℕ) → length (row_of (edge_lists_of rows) node) < 2 ^ 63
row_small [] node = omega arith
row_small (v ∷ rows) zero = omega (arith, v.ok.0, v.ok.1, v.small)
row_small (v ∷ rows) (suc node) = row_small rows node

-- One walk after another.
pub reach_join : (graph : EdgeLists) (from over to : ℕ) → LeadsTo graph from over → LeadsTo graph over to → LeadsTo graph from to
reach_join graph _ _ to (by_edge from over e) r = by_walk from over to e r
reach_join graph _ _ to (by_walk from next over e s) r = by_walk from next to e (reach_join graph next over to s r)

-- A walk over an edge at its end.
pub reach_on : (graph : EdgeLists) (from last to : ℕ) → ReachesOrIs graph from last → HasEdge graph last to → LeadsTo graph from to
reach_on graph from last to (inl same) e = let P : ℕ → Type 0 = λ x. HasEdge graph x to in by_edge from to (subst P (sym same) e)
reach_on graph from last to (inr r) e = reach_join graph from last to r (by_edge last to e)

-- Equal nodes reach the same.
pub reach_same : (graph : EdgeLists) (a b c d : ℕ) → a ≡ c → b ≡ d → LeadsTo graph c d → LeadsTo graph a b
reach_same graph a b c d p q r =
    let P : ℕ → Type 0 = λ x. LeadsTo graph x b in
    let Q : ℕ → Type 0 = λ y. LeadsTo graph c y in
    subst P (sym p) (subst Q (sym q) r)

-- A walk begins at a node.
pub reach_within : (graph : EdgeLists) (from to : ℕ) → LeadsTo graph from to → from < length graph
reach_within graph _ _ (by_edge from to e) = from_within graph from to e
reach_within graph _ _ (by_walk from next to e r) = from_within graph from next e
