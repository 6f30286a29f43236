-- The steps of a walk.
use Rattle.std.proofs.Common.{◌≡◌, ℕ, ◌+◌, ◌-◌, ◌<◌, ◌≤◌, ◌⊎◌, Bool, if◌then◌else◌, List, [], ◌∷◌, ◌++◌, length, set, take, get_or, Some, refl, sym, ap, subst, ◌∙◌, inl, inr, arith, get_or-set_same, get_or-set_other, get_or-take}
use Rattle.std.specs.List.{Contains, slice_get}
use Rattle.std.proofs.lemmas.List.{length-set, length_push, get_or_push, get_or_append_left, length-take-le, take-append-le, take_at}
use Rattle.std.proofs.lemmas.List.Elements.{Contains-append_left, Contains-push, Contains-push_cases}
use Rattle.std.proofs.lemmas.Option.{slice_get_within, slice_get-get_or, get_or_from_slice_get}
use Rattle.std.proofs.lemmas.Bool.{cases_lt, cases_eq, cases_Bool}
use Rattle.topological_order.specs.Graphs.{row_of, HasEdge, LeadsTo, by_edge}
use Rattle.topological_order.specs.declared.walk.Mark.TheVariants.{New, Open, Done}
use Rattle.topological_order.specs.Walk.{Trail, mark_of, is_new, opened, met, counted, finished, IsGraphWalk, IsTop, IsAtEdge, IsAtEnd, Follows}
use Rattle.topological_order.proofs.Lists.{top_split, at_place, place_of, none_past}
use Rattle.topological_order.proofs.Edges.{has_edge, edge_at, to_within, reach_on, reach_same}
use Rattle.topological_order.proofs.Marks.{mark_kinds, new_mark, mark_set, mark_other, mark_cases, marked_within, new_count_open, new_count_done, edges_less}

-- A new node that the whole path reaches is put on it.
pub opened_walk : (s : Trail) (node : ℕ) → IsGraphWalk s → node < length s.graph → mark_of s.marks node ≡ New
    → ((i : ℕ) → i < length s.path → LeadsTo s.graph (get_or s.path i 0) node) → IsGraphWalk (opened s node)
opened_walk s node w within fresh reach =
    let end = length s.path in
    let all = s.path ++ node ∷ [] in
    let long : length all ≡ end + 1 = length_push s.path node in
    let inside : node < length s.marks = omega (arith, w.all_marked) in
    let old : (i : ℕ) → i < end → get_or all i 0 ≡ get_or s.path i 0 = λ i l. get_or_append_left s.path (node ∷ []) 0 i l in
    let last : (i : ℕ) → end ≤ i → i < length all → get_or all i 0 ≡ node = λ i m l. get_or_push s.path node 0 i (omega arith) in
    let other : (i : ℕ) → i < end → get_or s.path i 0 ≡ node
    → ⊥ = λ i l e. let opened_now = w.opens i l in let new = ap (mark_of s.marks) e in (cc) in
    record {
      whole = w.whole;
      all_marked = length-set s.marks node Open ∙ w.all_marked;
      all_counted = w.all_counted;
      on_path = λ n is. elim (mark_cases s.marks node n Open Open inside is) [
        | inl e ↦ at_place all end n (omega arith) (last end (omega arith) (omega arith) ∙ sym e.0)
        | inr o ↦ Contains-append_left s.path (node ∷ []) n (w.on_path n o.1)
      ];
      opens = λ i l. elim (cases_lt i end) [
        | inl a ↦
            ap (mark_of (set s.marks node Open)) (old i a)
            ∙ mark_other s.marks node (get_or s.path i 0) Open (other i a)
            ∙ w.opens i a
        | inr b ↦ ap (mark_of (set s.marks node Open)) (last i b l) ∙ mark_set s.marks node Open inside
      ];
      apart = λ i j l m e. elim (cases_lt j end) [
        | inl a ↦ w.apart i j l a (sym (old i (omega arith)) ∙ e ∙ old j a)
        | inr b ↦ other i (omega arith) (sym (old i (omega arith)) ∙ e ∙ last j b m)
      ];
      linked = λ i j l m. elim (cases_lt j end) [
        | inl a ↦ reach_same s.graph _ _ _ _ (old i (omega arith)) (old j a) (w.linked i j l a)
        | inr b ↦ reach_same s.graph _ _ _ _ (old i (omega arith)) (last j b m) (reach i (omega arith))
      ];
      in_order = λ n is. elim (mark_cases s.marks node n Open Done inside is) [ inl e ↦ (cc (e.1)) | inr o ↦ w.in_order n o.1 ];
      all_done = λ n c. let done = w.all_done n c in mark_other s.marks node n Open (λ e. let new = ap (mark_of s.marks) e in (cc)) ∙ done;
      ended = λ n is. elim (mark_cases s.marks node n Open Done inside is) [ inl e ↦ (cc (e.1)) | inr o ↦ w.ended n o.1 ];
      meets = λ n edge to l is new. elim (mark_cases s.marks node to Open New inside new) [ inl e ↦ (cc (e.1)) | inr o ↦ w.meets n edge to l is o.1 ];
      counted = omega (arith, w.counted, new_count_open s.marks node inside fresh);
      behind = w.behind;
    }

-- One more edge is followed, to a node that was met.
pub counted_walk : (s : Trail) (node to : ℕ) → IsGraphWalk s → node < length s.graph
    → slice_get (row_of s.graph node) (get_or s.followed node 0) ≡ Some to → (mark_of s.marks to ≡ New → ⊥) → IsGraphWalk (counted s node)
counted_walk s node to w within edge met =
    let count = get_or s.followed node 0 in
    let now = set s.followed node (count + 1) in
    let same : get_or now node 0 ≡ count + 1 = get_or-set_same s.followed node (count + 1) 0 (omega (arith, w.all_counted)) in
    let known : (n : ℕ) → ((n ≡ node) × (get_or now n 0 ≡ count + 1)) ⊎ (get_or now n 0 ≡ get_or s.followed n 0) =
    λ n. elim (cases_eq n node) [
      | inl e ↦ inl (e, ap (λ x. get_or now x 0) e ∙ same)
      | inr ne ↦ inr
          (get_or-set_other s.followed node n (count + 1) 0 ne)
    ] in
    record {
      whole = w.whole;
      all_marked = w.all_marked;
      on_path = w.on_path;
      opens = w.opens;
      apart = w.apart;
      linked = w.linked;
      in_order = w.in_order;
      all_done = w.all_done;
      counted = w.counted;
      behind = w.behind;
      all_counted = length-set s.followed node (count + 1) ∙ w.all_counted;
      ended = λ n is. elim (known n) [
        | inl (e, more) ↦ omega (arith, w.ended n is, ap (λ x. get_or s.followed x 0) e)
        | inr more ↦ omega (arith, w.ended n is)
      ];
      meets = λ n k t l is new. elim (known n) [
        | inl (e, more) ↦
            let before : get_or s.followed n 0 ≡ count = ap (λ x. get_or s.followed x 0) e in
            elim (cases_lt k count) [
              | inl a ↦ w.meets n k t (omega arith) is new
              | inr b ↦
                  let here : k ≡ count = omega arith in
                  let there : slice_get (row_of s.graph n) k ≡ Some to =
                  ap (λ x. slice_get (row_of s.graph x) k) e ∙ ap (slice_get (row_of s.graph node)) here ∙ edge in
                  let same : to ≡ t = cc in
                  met (ap (mark_of s.marks) same ∙ new)
            ]
        | inr more ↦ w.meets n k t (omega arith) is new
      ];
    }

-- The node to which an edge of the last node leads is in the order, or reaches that node.
led : (s : Trail) (node next : ℕ) → IsAtEnd s node → HasEdge s.graph node next → Contains s.order next ⊎ LeadsTo s.graph next node
led s node next a e =
    let w = a.walk in
    let end = length s.path - 1 in
    let k = edge_at s.graph node next e in
    let all : length (row_of s.graph node) ≤ get_or s.followed node 0 = none_past (row_of s.graph node) (get_or s.followed node 0) a.edge in
    let last : get_or s.path end 0 ≡ node = get_or_from_slice_get s.path end node 0 a.top in
    elim (mark_kinds (mark_of s.marks next)) [
      | inl new ↦ absurd (w.meets node k.0 next (omega (arith, k.1)) k.2 new)
      | inr (inl op) ↦
          let p = place_of s.path next (w.on_path next op) in
          inr (elim (cases_lt p.0 end) [
            | inl above ↦ reach_same s.graph next node _ _ (sym p.2) (sym last) (w.linked p.0 end above (slice_get_within s.path end node a.top))
            | inr here ↦
                let same : p.0 ≡ end = omega (arith, p.1) in
                let is : next ≡ node = sym p.2 ∙ ap (λ k. get_or s.path k 0) same ∙ last in
                let P : ℕ → Type 0 = λ x. HasEdge s.graph x node in
                let Q : ℕ → Type 0 = HasEdge s.graph node in
                by_edge next node (subst P (sym is) (subst Q is e))
          ])
      | inr (inr done) ↦ inl (w.in_order next done)
    ]

-- The last node on the path, whose edges were all followed, is done.
pub left_walk : (s : Trail) (node : ℕ) → IsAtEnd s node → IsGraphWalk (finished s node)
left_walk s node a =
    let w = a.walk in
    let end = length s.path - 1 in
    let rest = take end s.path in
    let some : end < length s.path = slice_get_within s.path end node a.top in
    let short : length rest ≡ end = length-take-le end s.path (omega arith) in
    let last : get_or s.path end 0 ≡ node = get_or_from_slice_get s.path end node 0 a.top in
    let opened_now : mark_of s.marks node ≡ Open = ap (mark_of s.marks) (sym last) ∙ w.opens end some in
    let inside : node < length s.marks = marked_within s.marks node (λ new. (cc)) in
    let old : (i : ℕ) → i < length rest → get_or rest i 0 ≡ get_or s.path i 0 = λ i l. get_or-take end s.path i 0 (omega arith) in
    let after = s.order ++ node ∷ [] in
    record {
      whole = w.whole;
      all_marked = length-set s.marks node Done ∙ w.all_marked;
      all_counted = w.all_counted;
      on_path = λ n is. elim (mark_cases s.marks node n Done Open inside is) [
        | inl e ↦ (cc (e.1))
        | inr o ↦
            let P : List ℕ → Type 0 = λ path. Contains path n in
            elim (Contains-push_cases rest node n (subst P (top_split s.path node a.top) (w.on_path n o.1)))
            [ inl c ↦ c | inr e ↦ absurd (o.0 (sym e)) ]
      ];
      opens = λ i l.
          ap (mark_of (set s.marks node Done)) (old i l)
          ∙ mark_other s.marks node (get_or s.path i 0) Done (λ e. w.apart i end (omega arith) some (e ∙ sym last))
          ∙ w.opens i (omega arith);
      apart = λ i j l m e. w.apart i j l (omega arith) (sym (old i (omega arith)) ∙ e ∙ old j m);
      linked = λ i j l m. reach_same s.graph _ _ _ _ (old i (omega arith)) (old j m) (w.linked i j l (omega arith));
      in_order = λ n is. elim (mark_cases s.marks node n Done Done inside is) [
        | inl e ↦ let P : ℕ → Type 0 = Contains after in subst P (sym e.0) (Contains-push s.order node)
        | inr o ↦ Contains-append_left s.order (node ∷ []) n (w.in_order n o.1)
      ];
      all_done = λ n c. elim (Contains-push_cases s.order node n c) [
        | inl old ↦ let done = w.all_done n old in mark_other s.marks node n Done (λ e. let was = ap (mark_of s.marks) e in (cc)) ∙ done
        | inr e ↦ ap (mark_of (set s.marks node Done)) (sym e) ∙ mark_set s.marks node Done inside
      ];
      ended = λ n is. elim (mark_cases s.marks node n Done Done inside is) [
        | inl e ↦ let P : ℕ → Type 0 = λ x. length (row_of s.graph x) ≤ get_or s.followed x 0 in subst P (sym e.0)
            (none_past (row_of s.graph node) (get_or s.followed node 0) a.edge)
        | inr o ↦ w.ended n o.1
      ];
      meets = λ n edge to l is new. elim (mark_cases s.marks node to Done New inside new) [ inl e ↦ (cc (e.1)) | inr o ↦ w.meets n edge to l is o.1 ];
      counted = omega (arith, w.counted, new_count_done s.marks node inside opened_now, length_push s.order node);
      behind = λ place n next is e.
          let P : List ℕ → Type 0 = λ l. Contains l next ⊎ LeadsTo s.graph next n in
          let within : place < length after = slice_get_within after place n is in
          let long : length after ≡ length s.order + 1 = length_push s.order node in
          let all : get_or after place n ≡ n = get_or_from_slice_get after place n n is in
          elim (cases_lt place (length s.order)) [
            | inl before ↦
                let was : slice_get s.order place ≡ Some n = slice_get-get_or s.order place n before
                ∙ ap Some (sym (get_or_append_left s.order (node ∷ []) n place before) ∙ all) in
                subst P (sym (take-append-le place s.order (node ∷ []) (omega arith))) (w.behind place n next was e)
            | inr here ↦
                let is : node ≡ n = sym (get_or_push s.order node n place (omega arith)) ∙ all in
                let Q : ℕ → Type 0 = λ x. HasEdge s.graph x next → Contains s.order next ⊎ LeadsTo s.graph next x in
                subst P (sym (take_at s.order (node ∷ []) place (omega arith))) (subst Q is (led s node next a) e)
          ];
    }

-- What is known of the last node on the path.
pub record IsHere (s : Trail) (node : ℕ) : Type 0 where
  pub is_open : mark_of s.marks node ≡ Open
  pub marked : node < length s.marks
  pub within : node < length s.graph
  pub reached : (i : ℕ) → i < length s.path → (get_or s.path i 0 ≡ node) ⊎ LeadsTo s.graph (get_or s.path i 0) node

-- The last node on the path is open, and all of the path reaches it.
pub is_here : (s : Trail) (node : ℕ) → IsGraphWalk s → IsTop s node → IsHere s node
is_here s node w top =
    let end = length s.path - 1 in
    let some : end < length s.path = slice_get_within s.path end node top in
    let last : get_or s.path end 0 ≡ node = get_or_from_slice_get s.path end node 0 top in
    let opened_now : mark_of s.marks node ≡ Open = ap (mark_of s.marks) (sym last) ∙ w.opens end some in
    let marked : node < length s.marks = marked_within s.marks node (λ new. (cc)) in
    record {
      is_open = opened_now;
      marked = marked;
      within = omega (arith, w.all_marked);
      reached = λ i l. elim (cases_lt i end) [
        | inl before ↦ inr (reach_same s.graph _ _ _ _ refl (sym last) (w.linked i end before some))
        | inr here ↦ let same : i ≡ end = omega arith in inl (ap (λ k. get_or s.path k 0) same ∙ last)
      ];
    }

-- A node is put on the path, if it is new, and is then followed to.
pub met_follows : (s : Trail) (node to : ℕ) → IsAtEdge s node to → Follows s (counted (met s to) node)
met_follows s node to a =
    let w = a.walk in
    let h = is_here s node w a.top in
    let edge = has_edge s.graph node (get_or s.followed node 0) to h.within a.edge in
    let within : to < length s.graph = to_within s.graph node (get_or s.followed node 0) to w.whole h.within a.edge in
    let inside : to < length s.marks = omega (arith, w.all_marked) in
    let fewer = edges_less s.graph s.followed node w.all_counted h.within
    (slice_get_within (row_of s.graph node) (get_or s.followed node 0) to a.edge) in
    let P : Trail → Type 0 = λ t. Follows s (counted t node) in
    elim (cases_Bool (is_new (mark_of s.marks to))) [
      | inl new ↦
          let fresh : mark_of s.marks to ≡ New = new_mark (mark_of s.marks to) new in
          let reach : (i : ℕ) → i < length s.path → LeadsTo s.graph (get_or s.path i 0) to = λ i l. reach_on s.graph _ node to (h.reached i l) edge in
          let same : opened s to ≡ met s to = ap (λ b. if b then opened s to else s) (sym new) in
          let there : P (opened s to) = record {
            graph = refl;
            walk = counted_walk (opened s to) node to (opened_walk s to w within fresh reach) h.within a.edge
                (λ no. let now = mark_set s.marks to Open inside in (cc));
            less = omega (arith, fewer, new_count_open s.marks to inside fresh, length_push s.path to);
            kept = λ n is. elim (mark_cases s.marks to n Open New inside is) [ inl e ↦ (cc (e.1)) | inr o ↦ o.1 ];
            done = λ n is. mark_other s.marks to n Open (λ e. let was = ap (mark_of s.marks) e in (cc)) ∙ is;
            led = λ n is now. elim (cases_eq n to) [
              | inl e ↦ let Q : ℕ → Type 0 = HasEdge s.graph node in record { from = node; is_open = h.is_open; edge = subst Q (sym e) edge }
              | inr ne ↦ absurd (now (mark_other s.marks to n Open ne ∙ is))
            ];
            order = inl refl;
          } in
          subst P same there
      | inr known ↦
          let same : s ≡ met s to = ap (λ b. if b then opened s to else s) (sym known) in
          let there : P s = record {
            graph = refl;
            walk = counted_walk s node to w h.within a.edge (λ no. let was = ap is_new no in (cc));
            less = omega (arith, fewer);
            kept = λ n is. is;
            done = λ n is. is;
            led = λ n is now. absurd (now is);
            order = inl refl;
          } in
          subst P same there
    ]

-- The last node on the path is left.
pub left_follows : (s : Trail) (node : ℕ) → IsAtEnd s node → Follows s (finished s node)
left_follows s node a =
    let h = is_here s node a.walk a.top in
    let end = length s.path - 1 in
    let some : end < length s.path = slice_get_within s.path end node a.top in
    record {
      graph = refl;
      walk = left_walk s node a;
      less = omega (arith, new_count_done s.marks node h.marked h.is_open, length-take-le end s.path (omega arith));
      kept = λ n is. elim (mark_cases s.marks node n Done New h.marked is) [ inl e ↦ (cc (e.1)) | inr o ↦ o.1 ];
      done = λ n is. elim (cases_eq n node) [
        | inl e ↦ ap (mark_of (set s.marks node Done)) e ∙ mark_set s.marks node Done h.marked
        | inr ne ↦ mark_other s.marks node n Done ne ∙ is
      ];
      led = λ n is now. absurd (now (mark_other s.marks node n Done (λ e. let was = ap (mark_of s.marks) e in let opened_now = h.is_open in (cc))
          ∙ is));
      order = inr (node, h.is_open, refl);
    }

-- No edge is followed when a node is met.
pub met_followed : (s : Trail) (node : ℕ) → (met s node).followed ≡ s.followed
met_followed s node =
    let P : Bool → Type 0 = λ b. (if b then opened s node else s).followed ≡ s.followed in
    elim (cases_Bool (is_new (mark_of s.marks node))) [ inl new ↦ subst P (sym new) refl | inr known ↦ subst P (sym known) refl ]
