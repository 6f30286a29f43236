use Rattle.std.proofs.Common.{◌≡◌, ◌+◌, ◌-◌, List, ℕ, Some, length, get_or, take, drop, sym, ap, subst, ◌∙◌, arith}
use Rattle.std.specs.List.{slice_get}
use Rattle.std.proofs.lemmas.List.{take_rest}
use Rattle.std.proofs.lemmas.Option.{slice_get-get_or}
use Rattle.topological_order.specs.Graphs.{EdgeLists, edge_lists_of}
use Rattle.topological_order.specs.Components.{IsTurned, AreNumbered}
use Rattle.topological_order.specs.Walk.{trail_of}
use Rattle.topological_order.proofs.Edges.{graph_length}
use Rattle.topological_order.proofs.Numbers.{IsNumberedTo, numbers_within, numbered_begun, component_numbered, all_numbered}
use Rattle.topological_order.proofs.components.component_numbers.Goals as goal

-- What the code takes of the order.
end_of : (before after items : List ℕ) (start : ℕ) → start ≡ length before → items ≡ after
    → take (length items - start) (drop start items) ≡ drop (length before) after
end_of before after items start is same = take_rest items start ∙ ap (drop start) same ∙ ap (λ n. drop n after) is

pub loop-at-init : goal.loop-at-init
loop-at-init c =
    let graph = edge_lists_of c.args.graph.now in
    let walk = c.in_ok-walk.walk in
    let same = c.in_ok-walk.ensures.graph ∙ c.deref.ensures.value in
    let P : EdgeLists → Type 0 = IsTurned graph in
    let turned : IsTurned graph (edge_lists_of walk.graph.now) = subst P (sym (ap edge_lists_of same)) c.in_ok-turned.ensures in
    numbered_begun graph c.args.order.now (trail_of walk) c.in_ok-numbers.numbers.items turned c.in_ok-walk.ensures.begun
    (omega (arith, graph_length c.args.graph.now, c.in_ok-numbers.ensures.len, c.in_ok-numbers.numbers.ok.0))

pub walk_from-requires-clause-root : goal.walk_from-requires-clause-root
walk_from-requires-clause-root c =
    let order = c.args.order.now in
    let at = c.loop-at.at - 1 in
    let got : slice_get order at ≡ Some (get_or order at 0) = slice_get-get_or order at 0 (omega arith) in
    let within = c.requires.order.nodes at (get_or order at 0) got in
    omega (arith, c.loop-at.invariant.turned.nodes, graph_length c.loop-at.walk.graph.now)

pub number-requires : goal.number-requires
number-requires c =
    let s = trail_of c.loop-at.walk in
    let t = trail_of c.walk_from.new.self in
    let start = c.len-component.result in
    let items = c.deref-in-loop-at.result.now in
    numbers_within (edge_lists_of c.args.graph.now) c.args.order.now c.loop-at.at (get_or c.args.order.now (c.loop-at.at - 1) 0) s t
    (take (length items - start) (drop start items)) c.loop-at.numbers.items c.loop-at.invariant c.in_ok-walk_from.ensures.walk
    (end_of s.order t.order items start (omega arith) c.deref-in-loop-at.ensures.value)

pub loop-at-preserved : goal.loop-at-preserved
loop-at-preserved c =
    let graph = edge_lists_of c.args.graph.now in
    let order = c.args.order.now in
    let at = c.loop-at.at - 1 in
    let s = trail_of c.loop-at.walk in
    let t = trail_of c.walk_from.new.self in
    let start = c.len-component.result in
    let items = c.deref-in-loop-at.result.now in
    let part = take (length items - start) (drop start items) in
    let is : start ≡ length s.order = omega arith in
    let got : slice_get order at ≡ Some (get_or order at 0) = slice_get-get_or order at 0 (omega arith) in
    let down : c.loop-at.at ≡ at + 1 = omega arith in
    let P : ℕ → Type 0 = λ n. IsNumberedTo graph order n s c.loop-at.numbers.items in
    let Q : ℕ → Type 0 = λ n. AreNumbered part n c.loop-at.numbers.items c.number.new.numbers.items in
    component_numbered graph order at (get_or order at 0) s t part c.loop-at.numbers.items c.number.new.numbers.items
    (subst P down c.loop-at.invariant) got c.in_ok-walk_from.ensures.walk c.in_ok-walk_from.ensures.path
    (end_of s.order t.order items start is c.deref-in-loop-at.ensures.value) (subst Q is c.number.ensures)

pub returns : goal.returns
returns c =
    let graph = edge_lists_of c.args.graph.now in
    let s = trail_of c.loop-at.walk in
    let done : c.loop-at.at ≡ 0 = omega arith in
    let P : ℕ → Type 0 = λ n. IsNumberedTo graph c.args.order.now n s c.loop-at.numbers.items in
    all_numbered graph c.args.order.now s c.loop-at.numbers.items c.requires.order (subst P done c.loop-at.invariant)
