-- Nodes that reach themselves.
use Rattle.std.proofs.Common.{◌≡◌, ℕ, Bool, true, false, ◌+◌, ◌<◌, ◌≤◌, ◌⊎◌, List, length, get_or, Some, refl, sym, ap, subst, ◌∙◌, inl, inr, arith}
use Rattle.std.specs.declared.alloc.Global.{Global}
use Rattle.std.specs.declared.vec.Vec.{Vec}
use Rattle.std.specs.List.{slice_get}
use Rattle.std.proofs.lemmas.Bool.{cases_eq}
use Rattle.topological_order.specs.declared.walk.Walk.{Walk}
use Rattle.topological_order.specs.declared.walk.Mark.TheVariants.{New}
use Rattle.topological_order.specs.Graphs.{EdgeLists, edge_lists_of, row_of, HasEdge, LeadsTo, by_edge, by_walk, ReachesOrIs}
use Rattle.topological_order.specs.Components.{IsNumbered}
use Rattle.topological_order.specs.Cycles.{Stays}
use Rattle.topological_order.specs.Walk.{trail_of, mark_of, IsAtRest, IsWalkedFrom}
use Rattle.topological_order.proofs.Edges.{edge_at}
use Rattle.topological_order.proofs.Marks.{mark_kinds}
use Rattle.topological_order.proofs.Walking.{rest_reached}

-- The number of what is reached is no lesser.
numbers_rise : (graph : EdgeLists) (numbers : List ℕ) (from to : ℕ) → IsNumbered graph numbers → LeadsTo graph from to
    → get_or numbers from 0 ≤ get_or numbers to 0
numbers_rise graph numbers _ _ h (by_edge from to e) = h.rises from to e
numbers_rise graph numbers _ _ h (by_walk from next to e r) = omega (arith, h.rises from next e, numbers_rise graph numbers next to h r)

-- A walk has a first edge.
first_edge : (graph : EdgeLists) (from to : ℕ) → LeadsTo graph from to → (next : ℕ) × HasEdge graph from next × ((next ≡ to) ⊎ LeadsTo graph next to)
first_edge graph _ _ (by_edge from to e) = (to, e, inl refl)
first_edge graph _ _ (by_walk from next to e r) = (next, e, inr r)

-- A node that reaches itself has an edge to a node of its number.
pub cyclic_stays : (graph : EdgeLists) (numbers : List ℕ) (node : ℕ) → IsNumbered graph numbers → LeadsTo graph node node
    → (to : ℕ) × HasEdge graph node to × (get_or numbers to 0 ≡ get_or numbers node 0)
cyclic_stays graph numbers node h r =
    let f = first_edge graph node node r in (
      f.0,
      f.1,
      elim f.2 [
        | inl e ↦ ap (λ x. get_or numbers x 0) e
        | inr rest ↦ omega (arith, h.rises node f.0 f.1, numbers_rise graph numbers f.0 node h rest)
      ],
    )

-- The edges of a node up to that one lead to nodes that a walk at rest has met, and all that it has met is reached from the node.
pub record IsFrom (graph : List (Vec ℕ Global)) (node edge : ℕ) (walk : Walk) : Type 0 where
  pub same : edge_lists_of walk.graph.now ≡ edge_lists_of graph
  pub rests : IsAtRest (trail_of walk)
  pub met : (k next : ℕ) → k < edge → slice_get (row_of (edge_lists_of graph) node) k ≡ Some next → mark_of walk.marks.items next ≡ New → ⊥
  pub reached : (to : ℕ) → (mark_of walk.marks.items to ≡ New → ⊥) → LeadsTo (edge_lists_of graph) node to

-- One more edge of the node was followed to its end.
pub from_more : (graph : List (Vec ℕ Global)) (node edge next : ℕ) (walk after : Walk) → IsFrom graph node edge walk
    → slice_get (row_of (edge_lists_of graph) node) edge ≡ Some next → HasEdge (edge_lists_of graph) node next
    → IsWalkedFrom (trail_of walk) (trail_of after) next → length after.path.items ≡ 0 → IsFrom graph node (edge + 1) after
from_more graph node edge next walk after h is e f none = record {
  same = f.graph ∙ h.same;
  rests = record { walk = f.walk; path = none };
  met = λ k other l there new. elim (cases_eq k edge) [
    | inl same ↦
        let again : slice_get (row_of (edge_lists_of graph) node) edge ≡ Some other = ap (slice_get (row_of (edge_lists_of graph) node)) (sym same) ∙ there in
        let one : next ≡ other = cc in
        f.here (ap (mark_of after.marks.items) one ∙ new)
    | inr less ↦ h.met k other (omega arith) there (f.kept other new)
  ];
  reached = λ to now. elim (mark_kinds (mark_of walk.marks.items to)) [
    | inl new ↦
        let P : EdgeLists → Type 0 = λ g. ReachesOrIs g next to in
        let there : ReachesOrIs (edge_lists_of graph) next to = subst P h.same (f.reached to new now) in
        elim there [
          | inl one ↦ let Q : ℕ → Type 0 = HasEdge (edge_lists_of graph) node in by_edge node to (subst Q one e)
          | inr r ↦ by_walk node next to e r
        ]
    | inr (inl op) ↦ h.reached to (λ new. (cc))
    | inr (inr done) ↦ h.reached to (λ new. (cc))
  ];
}

-- Where all edges of the node were followed to their end, what it reaches was met.
pub from_all : (graph : List (Vec ℕ Global)) (node edge to : ℕ) (walk : Walk) → IsFrom graph node edge walk
    → length (row_of (edge_lists_of graph) node) ≤ edge → LeadsTo (edge_lists_of graph) node to → mark_of walk.marks.items to ≡ New → ⊥
from_all graph node edge to walk h all r =
    let f = first_edge (edge_lists_of graph) node to r in
    let k = edge_at (edge_lists_of graph) node f.0 f.1 in
    let met = h.met k.0 f.0 (omega (arith, k.1)) k.2 in
    elim f.2 [
      | inl is ↦ λ new. met (ap (mark_of walk.marks.items) is ∙ new)
      | inr rest ↦ let P : EdgeLists → Type 0 = λ g. LeadsTo g f.0 to in rest_reached (trail_of walk) f.0 to h.rests met (subst P (sym h.same) rest)
    ]

-- A node with no edge to a node of its number doesn't reach itself.
pub leaves : (graph : EdgeLists) (numbers : List ℕ) (node : ℕ) (stays : Bool) → IsNumbered graph numbers → Stays graph numbers node stays
    → stays ≡ false → LeadsTo graph node node → ⊥
leaves graph numbers node true h all is r = (cc)
leaves graph numbers node false h none is r = let f = cyclic_stays graph numbers node h r in none f.0 f.1 f.2
