-- Orders, and nodes that reach themselves.
use Rattle.std.proofs.Common.{◌≡◌, ℕ, zero, suc, ◌+◌, ◌<◌, List, length, take, get_or, Some, sym, ◌∙◌, refl, inl, inr, arith, get_or-take}
use Rattle.std.specs.List.{slice_get}
use Rattle.std.proofs.lemmas.List.{length-take-le}
use Rattle.std.proofs.lemmas.Option.{slice_get_within, slice_get_read}
use Rattle.topological_order.specs.Graphs.{EdgeLists, HasEdge, LeadsTo, by_edge, by_walk}
use Rattle.topological_order.specs.Orders.{IsOrder}
use Rattle.topological_order.specs.Walk.{IsFinishingOrder}
use Rattle.topological_order.proofs.Lists.{got}
use Rattle.topological_order.proofs.Edges.{reach_within}

-- Where no node reaches itself, the order in which walks left the nodes is an order.
pub finished_is_order : (graph : EdgeLists) (order : List ℕ) → IsFinishingOrder graph order → ((node : ℕ) → LeadsTo graph node node → ⊥)
    → IsOrder graph order
finished_is_order graph order f acyclic = record {
  all = f.all;
  once = f.once;
  behind = λ place node next is e. elim (f.behind place node next is e)
      [ inl c ↦ c | inr back ↦ absurd (acyclic node (by_walk node next node e back)) ];
}

-- The node to which an edge leads comes before.
before : (graph : EdgeLists) (order : List ℕ) (from to place : ℕ) → IsOrder graph order → slice_get order place ≡ Some from → HasEdge graph from to
    → (other : ℕ) × (other < place) × (slice_get order other ≡ Some to)
before graph order from to place o is e =
    let c = o.behind place from to is e in
    let within : place < length order = slice_get_within order place from is in
    let short : length (take place order) ≡ place = length-take-le place order (omega arith) in
    let less : c.0 < place = omega (arith, c.1) in
    let there : get_or order c.0 to ≡ to = sym (get_or-take place order c.0 to less) ∙ c.2 in
    (c.0, less, slice_get_read order (length order) c.0 to refl (omega arith) (sym there))

-- What a node of an order reaches is before it.
reached_before : (graph : EdgeLists) (order : List ℕ) (from to place : ℕ) → IsOrder graph order → slice_get order place ≡ Some from
    → LeadsTo graph from to → (other : ℕ) × (other < place) × (slice_get order other ≡ Some to)
reached_before graph order _ _ place o is (by_edge from to e) = before graph order from to place o is e
reached_before graph order _ _ place o is (by_walk from next to e r) =
    let one = before graph order from next place o is e in
    let more = reached_before graph order next to one.0 o one.2 r in
    (more.0, omega (arith, more.1, one.1), more.2)

-- A node of an order is not before itself.
never_again : (graph : EdgeLists) (order : List ℕ) (node bound place : ℕ) → IsOrder graph order → LeadsTo graph node node → place < bound
    → slice_get order place ≡ Some node → ⊥
never_again graph order node zero place o r l is = omega arith
never_again graph order node (suc bound) place o r l is =
    let one = reached_before graph order node node place o is r in
    never_again graph order node bound one.0 o r (omega (arith, one.1)) one.2

-- Where there is an order, no node reaches itself.
pub orders_exclude : (graph : EdgeLists) (order : List ℕ) (node : ℕ) → IsOrder graph order → LeadsTo graph node node → ⊥
orders_exclude graph order node o r =
    let c = o.all node (reach_within graph node node r) in
    never_again graph order node (c.0 + 1) c.0 o r (omega arith) (got order node c)
