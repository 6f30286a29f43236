-- Graphs with their edges turned round.
use Rattle.std.proofs.Common.{◌≡◌, ℕ, ◌+◌, ◌<◌, ◌≤◌, List, [], ◌∷◌, ◌++◌, length, set, take, get_or, sym, ap, subst, ◌∙◌, inl, inr, arith, get_or-set_same, get_or-set_other}
use Rattle.std.specs.List.{Contains}
use Rattle.std.proofs.lemmas.Bool.{cases_eq, cases_lt}
use Rattle.std.proofs.lemmas.List.{length-set, length_push, take_more, get_or_append_left, get_or_push}
use Rattle.std.proofs.lemmas.List.Elements.{Contains-append_left, Contains-push, Contains-push_cases}
use Rattle.topological_order.specs.Graphs.{EdgeLists, row_of, HasEdge, IsClosed}
use Rattle.topological_order.specs.Components.{IsTurned, IsTurnedAt}
use Rattle.topological_order.proofs.Edges.{edge_row, row_edge, from_within}

-- One more edge is turned round.
pub turned_more : (before graph : EdgeLists) (from at : ℕ) (row : List ℕ) → from < length before → at < length row → get_or row at 0 < length before
    → IsTurnedAt before graph from (take at row)
    → IsTurnedAt before (set graph (get_or row at 0) (row_of graph (get_or row at 0) ++ from ∷ [])) from (take (at + 1) row)
turned_more before graph from at row f l within h =
    let to = get_or row at 0 in
    let here = row_of graph to ++ from ∷ [] in
    let after = set graph to here in
    let long : length after ≡ length graph = length-set graph to here in
    let inside : to < length graph = omega (arith, h.nodes) in
    let same : (d : List ℕ) → get_or after to d ≡ here = λ d. get_or-set_same graph to here d inside in
    let P : List ℕ → ℕ → Type 0 = λ xs x. Contains xs x in
    let kept : (node x : ℕ) → HasEdge graph node x → HasEdge after node x =
    λ node x e.
    let old = edge_row graph node x e in
    row_edge after node x (omega (arith, from_within graph node x e)) (elim (cases_eq node to) [
      | inl is ↦
          let Q : ℕ → Type 0 = λ n. Contains (row_of graph n) x → Contains (row_of after n) x in
          let grows : Q to = λ c. subst (λ (xs : List ℕ). P xs x) (sym (same [])) (Contains-append_left (row_of graph to) (from ∷ []) x c) in
          subst Q (sym is) grows old
      | inr ne ↦ subst (λ (xs : List ℕ). P xs x) (sym (get_or-set_other graph to node here [] ne)) old
    ]) in
    record {
      nodes = long ∙ h.nodes;
      closed = λ i d m j e n. elim (cases_eq i to) [
        | inl is ↦
            let now : get_or after i d ≡ here = ap (λ k. get_or after k d) is ∙ same d in
            let size : length here ≡ length (row_of graph to) + 1 = length_push (row_of graph to) from in
            let R : List ℕ → Type 0 = λ xs. get_or xs j e < length after in
            let fits : j < length here = omega (arith, n, ap (λ xs. length xs) now) in
            subst R (sym now) (elim (cases_lt j (length (row_of graph to))) [
              | inl a ↦ omega (arith, get_or_append_left (row_of graph to) (from ∷ []) e j a, h.closed to [] inside j e a)
              | inr b ↦ omega (arith, get_or_push (row_of graph to) from e j (omega arith), h.nodes)
            ])
        | inr ne ↦
            let now : get_or after i d ≡ get_or graph i d = get_or-set_other graph to i here d ne in
            let R : List ℕ → Type 0 = λ xs. get_or xs j e < length after in
            subst R (sym now) (omega (arith, h.closed i d (omega arith) j e (omega (arith, n, ap (λ xs. length xs) now))))
      ];
      kept = λ node x e. kept node x (h.kept node x e);
      added = λ x c. elim (Contains-push_cases (take at row) to x (subst (λ (xs : List ℕ). P xs x) (take_more row at 0 l) c)) [
        | inl old ↦ kept x from (h.added x old)
        | inr is ↦
            let S : ℕ → Type 0 = λ n. HasEdge after n from in
            subst S is (row_edge after to from (omega arith)
            (subst (λ (xs : List ℕ). P xs from) (sym (same [])) (Contains-push (row_of graph to) from)))
      ];
    }

-- A graph with `nodes` nodes, and no edge.
pub record IsBlank (graph : EdgeLists) (nodes : ℕ) : Type 0 where
  pub all : length graph ≡ nodes
  pub empty : (node : ℕ) (d : List ℕ) → node < length graph → length (get_or graph node d) ≡ 0

-- The edges of the nodes below that one are turned round.
pub record IsTurnedTo (graph turned : EdgeLists) (from : ℕ) : Type 0 where
  pub nodes : length turned ≡ length graph
  pub closed : IsClosed turned
  pub edges : (node to : ℕ) → node < from → HasEdge graph node to → HasEdge turned to node

-- The edges of one more node are turned round.
pub turned_next : (graph turned after : EdgeLists) (from : ℕ) (row : List ℕ) → row_of graph from ≡ row → IsTurnedTo graph turned from
    → IsTurnedAt turned after from row → IsTurnedTo graph after (from + 1)
turned_next graph turned after from row is h t = record {
  nodes = t.nodes ∙ h.nodes;
  closed = t.closed;
  edges = λ node to l e. elim (cases_eq node from) [
    | inl same ↦
        let P : ℕ → Type 0 = λ n. HasEdge after to n in
        let Q : ℕ → Type 0 = λ n. HasEdge graph n to in
        let R : List ℕ → Type 0 = λ xs. Contains xs to in
        subst P (sym same) (t.added to (subst R is (edge_row graph from to (subst Q same e))))
    | inr ne ↦ t.kept to node (h.edges node to (omega arith) e)
  ];
}

-- In the end all edges are turned round.
pub turned_all : (graph turned : EdgeLists) (from : ℕ) → length graph ≤ from → IsTurnedTo graph turned from → IsTurned graph turned
turned_all graph turned from all h = record {
  nodes = h.nodes;
  closed = h.closed;
  edges = λ node to e. h.edges node to (omega (arith, from_within graph node to e)) e;
}
