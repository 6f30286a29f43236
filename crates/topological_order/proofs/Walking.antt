-- A walk from a node to its end.
use Rattle.std.proofs.Common.{◌≡◌, ℕ, ◌+◌, ◌<◌, ◌≤◌, if◌then◌else◌, List, [], ◌∷◌, ◌++◌, length, refl, sym, ap, subst, ◌∙◌, inl, inr, arith, append_assoc}
use Rattle.std.specs.List.{Contains}
use Rattle.std.proofs.lemmas.List.{append-nil}
use Rattle.std.proofs.lemmas.List.Elements.{Contains-push_cases}
use Rattle.std.proofs.lemmas.Bool.{cases_Bool, cases_eq}
use Rattle.std.proofs.lemmas.Option.{slice_get_within, get_or_from_slice_get}
use Rattle.std.specs.declared.alloc.Global.{Global}
use Rattle.std.specs.declared.vec.Vec.{Vec}
use Rattle.topological_order.specs.declared.walk.Walk.{Walk}
use Rattle.topological_order.specs.Graphs.{EdgeLists, edge_lists_of, HasEdge, LeadsTo, by_edge, by_walk, ReachesOrIs}
use Rattle.topological_order.specs.declared.walk.Mark.TheVariants.{New, Open, Done}
use Rattle.topological_order.specs.Walk.{Trail, trail_of, mark_of, is_new, opened, met, IsAtRest, Follows, IsWalkedFrom, IsFinishingOrder}
use Rattle.topological_order.proofs.Edges.{edge_at, reach_on, graph_length}
use Rattle.topological_order.proofs.Marks.{mark_kinds, marked_within, new_mark, mark_set, mark_other, mark_cases, none_new}
use Rattle.topological_order.proofs.Steps.{opened_walk}

-- No node is open at rest.
none_open : (s : Trail) (node : ℕ) → IsAtRest s → mark_of s.marks node ≡ Open → ⊥
none_open s node r op = let c = r.walk.on_path node op in omega (arith, c.1, r.path)

-- A node that was met is done at rest.
pub rest_done : (s : Trail) (node : ℕ) → IsAtRest s → (mark_of s.marks node ≡ New → ⊥) → mark_of s.marks node ≡ Done
rest_done s node r met = elim (mark_kinds (mark_of s.marks node)) [
  | inl new ↦ absurd (met new)
  | inr (inl op) ↦ absurd (none_open s node r op)
  | inr (inr done) ↦ done
]

-- The edges of a node that was met lead to nodes that were met, at rest.
pub rest_closed : (s : Trail) (node next : ℕ) → IsAtRest s → (mark_of s.marks node ≡ New → ⊥) → HasEdge s.graph node next → mark_of s.marks next ≡ New
    → ⊥
rest_closed s node next r met e new =
    let k = edge_at s.graph node next e in
    let all = r.walk.ended node (rest_done s node r met) in
    r.walk.meets node k.0 next (omega (arith, k.1)) k.2 new

-- What is reached from a node that was met was met, at rest.
pub rest_reached : (s : Trail) (from to : ℕ) → IsAtRest s → (mark_of s.marks from ≡ New → ⊥) → LeadsTo s.graph from to → mark_of s.marks to ≡ New → ⊥
rest_reached s _ _ r met (by_edge from to e) = rest_closed s from to r met e
rest_reached s _ _ r met (by_walk from next to e rest) = rest_reached s next to r (rest_closed s from next r met e) rest

-- The begin of a walk from a node.
pub walk_begun : (s : Trail) (root : ℕ) → IsAtRest s → root < length s.graph → IsWalkedFrom s (met s root) root
walk_begun s root r within =
    let w = r.walk in
    let inside : root < length s.marks = omega (arith, w.all_marked) in
    let P : Trail → Type 0 = λ t. IsWalkedFrom s t root in
    elim (cases_Bool (is_new (mark_of s.marks root))) [
      | inl new ↦
          let fresh : mark_of s.marks root ≡ New = new_mark (mark_of s.marks root) new in
          let same : opened s root ≡ met s root = ap (λ b. if b then opened s root else s) (sym new) in
          let there : P (opened s root) = record {
            graph = refl;
            walk = opened_walk s root w within fresh (λ i l. absurd (omega (arith, r.path)));
            here = λ still. let now = mark_set s.marks root Open inside in (cc);
            kept = λ n is. elim (mark_cases s.marks root n Open New inside is) [ inl e ↦ (cc (e.1)) | inr o ↦ o.1 ];
            done = λ n is. mark_other s.marks root n Open (λ e. let was = ap (mark_of s.marks) e in (cc)) ∙ is;
            reached = λ n is now. elim (mark_kinds (mark_of (opened s root).marks n)) [
              | inl still ↦ absurd (now still)
              | inr (inl op) ↦ elim (mark_cases s.marks root n Open Open inside op) [ inl e ↦ inl (sym e.0) | inr o ↦ (cc (o.1)) ]
              | inr (inr done) ↦ elim (mark_cases s.marks root n Open Done inside done) [ inl e ↦ inl (sym e.0) | inr o ↦ (cc (o.1)) ]
            ];
            part = [];
            order = sym (append-nil s.order);
            fresh = λ n c. absurd (omega (arith, c.1));
          } in
          subst P same there
      | inr known ↦
          let same : s ≡ met s root = ap (λ b. if b then opened s root else s) (sym known) in
          let there : P s = record {
            graph = refl;
            walk = w;
            here = λ still. let was = ap is_new still in (cc);
            kept = λ n is. is;
            done = λ n is. is;
            reached = λ n is now. absurd (now is);
            part = [];
            order = sym (append-nil s.order);
            fresh = λ n c. absurd (omega (arith, c.1));
          } in
          subst P same there
    ]

-- A node that is open in a walk was new before.
was_new : (s t : Trail) (root node : ℕ) → IsAtRest s → IsWalkedFrom s t root → mark_of t.marks node ≡ Open → mark_of s.marks node ≡ New
was_new s t root node r h op = elim (mark_kinds (mark_of s.marks node)) [
  | inl new ↦ new
  | inr (inl was) ↦ absurd (none_open s node r was)
  | inr (inr done) ↦ let still = h.done node done in (cc)
]

-- One more step of a walk from a node.
pub walk_more : (s t u : Trail) (root : ℕ) → IsAtRest s → IsWalkedFrom s t root → Follows t u → IsWalkedFrom s u root
walk_more s t u root r h f =
    let p : (part : List ℕ) × (u.order ≡ s.order ++ part) × ((node : ℕ) → Contains part node → mark_of s.marks node ≡ New) = elim f.order [
      | inl same ↦ (h.part, same ∙ h.order, h.fresh)
      | inr (node, op, is) ↦ (
        h.part ++ node ∷ [],
        is ∙ ap (λ o. o ++ node ∷ []) h.order ∙ append_assoc s.order h.part (node ∷ []),
        λ n c. elim (Contains-push_cases h.part node n c) [
          | inl old ↦ h.fresh n old
          | inr e ↦ ap (mark_of s.marks) (sym e) ∙ was_new s t root node r h op
        ],
      )
    ] in
    record {
      graph = f.graph ∙ h.graph;
      walk = f.walk;
      here = λ new. h.here (f.kept root new);
      kept = λ n is. h.kept n (f.kept n is);
      done = λ n is. f.done n (h.done n is);
      reached = λ n is now. elim (mark_kinds (mark_of t.marks n)) [
        | inl new ↦
            let l = f.led n new now in
            let from : ReachesOrIs s.graph root l.from = h.reached l.from (was_new s t root l.from r h l.is_open)
            (λ still. let opened_now = l.is_open in (cc)) in
            let P : EdgeLists → Type 0 = λ g. HasEdge g l.from n in
            inr (reach_on s.graph root l.from n from (subst P h.graph l.edge))
        | inr (inl op) ↦ h.reached n is (λ new. (cc))
        | inr (inr done) ↦ h.reached n is (λ new. (cc))
      ];
      part = p.0;
      order = p.1;
      fresh = p.2;
    }

-- A walk over the code's graph that has met the nodes below that one, and is at rest.
pub record IsUpTo (graph : List (Vec ℕ Global)) (walk : Walk) (root : ℕ) : Type 0 where
  pub same : edge_lists_of walk.graph.now ≡ edge_lists_of graph
  pub rests : IsAtRest (trail_of walk)
  pub met : (node : ℕ) → node < root → mark_of walk.marks.items node ≡ New → ⊥

-- From one root to the next.
pub up_walked : (graph : List (Vec ℕ Global)) (walk next : Walk) (root : ℕ) → IsUpTo graph walk root
    → IsWalkedFrom (trail_of walk) (trail_of next) root → length next.path.items ≡ 0 → IsUpTo graph next (root + 1)
up_walked graph walk next root h f none = record {
  same = f.graph ∙ h.same;
  rests = record { walk = f.walk; path = none };
  met = λ node l is. elim (cases_eq node root) [
    | inl e ↦ f.here (ap (mark_of next.marks.items) (sym e) ∙ is)
    | inr ne ↦ h.met node (omega arith) (f.kept node is)
  ];
}

-- The order in which walks from all nodes left them.
pub all_finished : (graph : List (Vec ℕ Global)) (walk : Walk) (root : ℕ) → IsUpTo graph walk root → length graph ≤ root
    → IsFinishingOrder (edge_lists_of graph) walk.order.items
all_finished graph walk root h all =
    let s = trail_of walk in
    let w = h.rests.walk in
    let long : length s.graph ≡ length graph = ap (λ g. length g) h.same ∙ graph_length graph in
    let met : (node : ℕ) → node < length s.graph → mark_of s.marks node ≡ New → ⊥ = λ node l. h.met node (omega arith) in
    let P : EdgeLists → Type 0 = λ g. IsFinishingOrder g s.order in
    let there : P s.graph = record {
      nodes = λ place node is.
          let done = w.all_done node (place, slice_get_within s.order place node is, get_or_from_slice_get s.order place node node is) in
          omega (arith, w.all_marked, marked_within s.marks node (λ new. (cc)));
      all = λ node l. w.in_order node (rest_done s node h.rests (met node l));
      once = omega (arith, w.counted, h.rests.path, none_new s.marks (λ node l. met node (omega (arith, w.all_marked))));
      behind = w.behind;
    } in
    subst P h.same there

-- A root below the end is a node of the walk.
pub up_within : (graph : List (Vec ℕ Global)) (walk : Walk) (root : ℕ) → edge_lists_of walk.graph.now ≡ edge_lists_of graph → root < length graph
    → root < length walk.graph.now
up_within graph walk root same l = omega (arith, ap (λ g. length g) same, graph_length graph, graph_length walk.graph.now)
