-- The numbers of components.
use Rattle.std.proofs.Common.{◌≡◌, ℕ, ◌+◌, ◌<◌, ◌≤◌, ◌⊎◌, List, [], ◌∷◌, ◌++◌, length, set, take, drop, get_or, Some, refl, sym, ap, subst, ◌∙◌, inl, inr, arith, length-append, length-drop, get_or-drop, get_or-set_same, get_or-set_other}
use Rattle.std.specs.List.{Contains, slice_get}
use Rattle.std.proofs.lemmas.Bool.{cases_eq}
use Rattle.std.proofs.lemmas.List.{length-set, take_more, drop_at, get_or_default}
use Rattle.std.proofs.lemmas.Option.{slice_get_within}
use Rattle.std.proofs.lemmas.List.Elements.{Contains-append_left, Contains-push, Contains-push_cases, Contains-append_cases}
use Rattle.topological_order.specs.declared.walk.Mark.TheVariants.{New, Done}
use Rattle.topological_order.specs.Graphs.{EdgeLists, HasEdge}
use Rattle.topological_order.specs.Components.{IsTurned, AreNumbered, IsNumbered}
use Rattle.topological_order.specs.Walk.{Trail, mark_of, IsAtRest, IsBegun, IsWalkedFrom, IsFinishingOrder}
use Rattle.topological_order.proofs.Lists.{got}
use Rattle.topological_order.proofs.Edges.{from_within}
use Rattle.topological_order.proofs.Marks.{marked_within}
use Rattle.topological_order.proofs.Walking.{rest_done, rest_closed}

-- One more node is numbered.
pub numbered_more : (nodes : List ℕ) (component at : ℕ) (before now : List ℕ) → at < length nodes → get_or nodes at 0 < length before
    → AreNumbered (take at nodes) component before now → AreNumbered (take (at + 1) nodes) component before (set now (get_or nodes at 0) component)
numbered_more nodes component at before now l within h =
    let node = get_or nodes at 0 in
    let after = set now node component in
    let more : take (at + 1) nodes ≡ take at nodes ++ node ∷ [] = take_more nodes at 0 l in
    let same : get_or after node 0 ≡ component = get_or-set_same now node component 0 (omega (arith, h.same_length)) in
    let P : List ℕ → Type 0 = λ front. AreNumbered front component before after in
    subst P (sym more) (record {
      same_length = length-set now node component ∙ h.same_length;
      here = λ n c. elim (cases_eq n node) [
        | inl e ↦ ap (λ x. get_or after x 0) e ∙ same
        | inr ne ↦ elim (Contains-push_cases (take at nodes) node n c) [
          | inl old ↦ get_or-set_other now node n component 0 ne ∙ h.here n old
          | inr e ↦ absurd (ne (sym e))
        ]
      ];
      others = λ n none.
          let ne : n ≡ node → ⊥ = λ e. let Q : ℕ → Type 0 = Contains (take at nodes ++ node ∷ []) in none
          (subst Q (sym e) (Contains-push (take at nodes) node)) in
          get_or-set_other now node n component 0 ne ∙ h.others n (λ c. none (Contains-append_left (take at nodes) (node ∷ []) n c));
    })

-- A walk at rest over the turned graph has met the nodes of the order from that place on. The nodes that it has met are
-- numbered: no edge leads to a greater number.
pub record IsNumberedTo (graph : EdgeLists) (order : List ℕ) (at : ℕ) (s : Trail) (numbers : List ℕ) : Type 0 where
  pub turned : IsTurned graph s.graph
  pub rests : IsAtRest s
  pub all : length numbers ≡ length graph
  pub low : (node : ℕ) → mark_of s.marks node ≡ Done → get_or numbers node 0 < length s.order
  pub falls : (from to : ℕ) → mark_of s.marks from ≡ Done → HasEdge s.graph from to → get_or numbers to 0 ≤ get_or numbers from 0
  pub met : (place node : ℕ) → at ≤ place → slice_get order place ≡ Some node → mark_of s.marks node ≡ New → ⊥

-- What was put at the end of the order.
pub part_of : (s t : Trail) (root : ℕ) (f : IsWalkedFrom s t root) → f.part ≡ drop (length s.order) t.order
part_of s t root f = sym (ap (drop (length s.order)) f.order ∙ drop_at s.order f.part (length s.order) refl)

-- The nodes of a component have numbers.
pub numbers_within : (graph : EdgeLists) (order : List ℕ) (at root : ℕ) (s t : Trail) (part numbers : List ℕ)
    → IsNumberedTo graph order at s numbers → IsWalkedFrom s t root → part ≡ drop (length s.order) t.order
    → (k d : ℕ) → k < length part → get_or part k d < length numbers
numbers_within graph order at root s t part numbers h f end k d l =
    let node = get_or part k d in
    let there : get_or t.order (length s.order + k) d ≡ node = sym (get_or-drop (length s.order) t.order k d) ∙ ap (λ xs. get_or xs k d) (sym end) in
    let within : length s.order + k < length t.order = omega (arith, length-drop (length s.order) t.order, ap (λ xs. length xs) end) in
    let done = f.walk.all_done node (length s.order + k, within, get_or_default t.order (length s.order + k) node d within ∙ there) in
    let marked = marked_within t.marks node (λ new. (cc)) in
    omega (arith, f.walk.all_marked, ap (λ g. length g) f.graph, h.turned.nodes, h.all)

-- A walk that has met no node has numbered none.
pub numbered_begun : (graph : EdgeLists) (order : List ℕ) (s : Trail) (numbers : List ℕ) → IsTurned graph s.graph → IsBegun s
    → length numbers ≡ length graph → IsNumberedTo graph order (length order) s numbers
numbered_begun graph order s numbers turned b all = record {
  turned = turned;
  rests = b.rests;
  all = all;
  low = λ node done. let new = b.fresh node in (cc);
  falls = λ from to done e. let new = b.fresh from in (cc);
  met = λ place node low is new. absurd (omega (arith, slice_get_within order place node is));
}

-- One more component is numbered.
pub component_numbered : (graph : EdgeLists) (order : List ℕ) (at root : ℕ) (s t : Trail) (part numbers after : List ℕ)
    → IsNumberedTo graph order (at + 1) s numbers → slice_get order at ≡ Some root → IsWalkedFrom s t root → length t.path ≡ 0
    → part ≡ drop (length s.order) t.order → AreNumbered part (length s.order) numbers after → IsNumberedTo graph order at t after
component_numbered graph order at root s t part numbers after h is f none end a =
    let rests : IsAtRest t = record { walk = f.walk; path = none } in
    let same : part ≡ f.part = end ∙ sym (part_of s t root f) in
    let P : ℕ → List ℕ → Type 0 = λ node xs. Contains xs node in
    let long : t.order ≡ s.order ++ part = f.order ∙ ap (λ xs. s.order ++ xs) (sym same) in
    let size : length t.order ≡ length s.order + length part = ap (λ xs. length xs) long ∙ length-append s.order part in
    let old : (node : ℕ) → mark_of s.marks node ≡ Done → get_or after node 0 ≡ get_or numbers node 0 =
    λ node done. a.others node (λ c. let new = f.fresh node (subst (P node) same c) in (cc)) in
    let either : (node : ℕ) → mark_of t.marks node ≡ Done → Contains part node ⊎ (mark_of s.marks node ≡ Done) =
    λ node done. elim (Contains-append_cases s.order part node (subst (P node) long (f.walk.in_order node done))) [
      | inl before ↦ inr (h.rests.walk.all_done node before)
      | inr here ↦ inl here
    ] in
    let Q : EdgeLists → Type 0 = IsTurned graph in
    record {
      turned = subst Q (sym f.graph) h.turned;
      rests = rests;
      all = a.same_length ∙ h.all;
      low = λ node done. elim (either node done) [
        | inl c ↦ omega (arith, a.here node c, c.1)
        | inr was ↦ omega (arith, old node was, h.low node was)
      ];
      falls = λ from to done e.
          elim (either from done) [
            | inl c ↦
                let next = rest_done t to rests (rest_closed t from to rests (λ new. (cc)) e) in
                elim (either to next) [
                  | inl there ↦ omega (arith, a.here from c, a.here to there)
                  | inr was ↦ omega (arith, a.here from c, old to was, h.low to was)
                ]
            | inr was ↦
                let R : EdgeLists → Type 0 = λ g. HasEdge g from to in
                let before : HasEdge s.graph from to = subst R f.graph e in
                let next = rest_done s to h.rests (rest_closed s from to h.rests (λ new. (cc)) before) in
                omega (arith, old from was, old to next, h.falls from to was before)
          ];
      met = λ place node low there new. elim (cases_eq place at) [
        | inl e ↦
            let again : slice_get order at ≡ Some node = ap (slice_get order) (sym e) ∙ there in
            let one : root ≡ node = cc in
            f.here (ap (mark_of t.marks) one ∙ new)
        | inr ne ↦ h.met place node (omega arith) there (f.kept node new)
      ];
    }

-- In the end all components are numbered.
pub all_numbered : (graph : EdgeLists) (order : List ℕ) (s : Trail) (numbers : List ℕ) → IsFinishingOrder graph order
    → IsNumberedTo graph order 0 s numbers → IsNumbered graph numbers
all_numbered graph order s numbers o h = record {
  all = h.all;
  rises = λ from to e.
      let back = h.turned.edges from to e in
      let c = o.all to (omega (arith, from_within s.graph to from back, h.turned.nodes)) in
      h.falls to from (rest_done s to h.rests (h.met c.0 to (omega arith) (got order to c))) back;
}
