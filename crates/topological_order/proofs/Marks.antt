-- The mark of a node after a write.
use Rattle.std.proofs.Common.{◌≡◌, ℕ, zero, suc, ◌+◌, ◌<◌, ◌⊎◌, true, cond, List, [], ◌∷◌, length, set, get_or, refl, sym, ap, ◌∙◌, inl, inr, arith, get_or-set_same, get_or-set_other}
use Rattle.std.specs.List.{count_by}
use Rattle.std.proofs.lemmas.Bool.{cases_eq, cases_lt}
use Rattle.std.proofs.lemmas.List.{get_or_past}
use Rattle.std.proofs.lemmas.List.Sums.{sum_by-set}
use Rattle.topological_order.specs.declared.walk.Mark.{Mark}
use Rattle.topological_order.specs.declared.walk.Mark.TheVariants.{New, Open, Done}
use Rattle.topological_order.specs.Graphs.{EdgeLists, row_of}
use Rattle.topological_order.specs.Walk.{mark_of, is_new, edges_left}

-- A mark is one of three.
pub mark_kinds : (mark : Mark) → (mark ≡ New) ⊎ ((mark ≡ Open) ⊎ (mark ≡ Done))
mark_kinds New = inl refl
mark_kinds Open = inr (inl refl)
mark_kinds Done = inr (inr refl)

-- Only a new node counts as new.
pub new_mark : (mark : Mark) → is_new mark ≡ true → mark ≡ New
new_mark New is = refl
new_mark Open is = (cc)
new_mark Done is = (cc)

-- The mark that was written.
pub mark_set : (marks : List Mark) (node : ℕ) (mark : Mark) → node < length marks → mark_of (set marks node mark) node ≡ mark
mark_set marks node mark l = get_or-set_same marks node mark New l

-- The mark of another node.
pub mark_other : (marks : List Mark) (node other : ℕ) (mark : Mark) → (other ≡ node → ⊥) → mark_of (set marks node mark) other ≡ mark_of marks other
mark_other marks node other mark ne = get_or-set_other marks node other mark New ne

-- A mark after a write was there before, or was written.
pub mark_cases : (marks : List Mark) (node other : ℕ) (mark now : Mark) → node < length marks → mark_of (set marks node mark) other ≡ now
    → ((other ≡ node) × (mark ≡ now)) ⊎ ((other ≡ node → ⊥) × (mark_of marks other ≡ now))
mark_cases marks node other mark now l is =
    elim (cases_eq other node) [
      | inl e ↦ inl (e, sym (mark_set marks node mark l) ∙ ap (λ o. mark_of (set marks node mark) o) (sym e) ∙ is)
      | inr ne ↦ inr (ne, sym (mark_other marks node other mark ne) ∙ is)
    ]

-- A node that was met has a mark.
pub marked_within : (marks : List Mark) (node : ℕ) → (mark_of marks node ≡ New → ⊥) → node < length marks
marked_within marks node met = elim (cases_lt node (length marks)) [ inl l ↦ l | inr past ↦ absurd (met (get_or_past marks node New past)) ]

-- One node fewer is new.
pub new_count_open : (marks : List Mark) (node : ℕ) → node < length marks → mark_of marks node ≡ New
    → count_by is_new marks ≡ count_by is_new (set marks node Open) + 1
new_count_open marks node l is =
    let f : Mark → ℕ = λ m. cond (is_new m) 1 0 in
    omega (arith, sum_by-set f marks node Open New l, ap f is)

-- An open node that is done changes no count of new ones.
pub new_count_done : (marks : List Mark) (node : ℕ) → node < length marks → mark_of marks node ≡ Open
    → count_by is_new (set marks node Done) ≡ count_by is_new marks
new_count_done marks node l is =
    let f : Mark → ℕ = λ m. cond (is_new m) 1 0 in
    omega (arith, sum_by-set f marks node Done New l, ap f is)

-- Where no node is new, none is counted.
pub none_new : (marks : List Mark) → ((node : ℕ) → node < length marks → mark_of marks node ≡ New → ⊥) → count_by is_new marks ≡ 0
none_new [] none = refl
none_new (New ∷ marks) none = absurd (none 0 (omega arith) refl)
none_new (Open ∷ marks) none = none_new marks (λ n l. none (suc n) (omega arith))
none_new (Done ∷ marks) none = none_new marks (λ n l. none (suc n) (omega arith))

-- One edge fewer is left.
pub edges_less : (graph : EdgeLists) (followed : List ℕ) (node : ℕ) → length followed ≡ length graph → node < length graph
    → get_or followed node 0 < length (row_of graph node)
    → edges_left graph followed ≡ edges_left graph (set followed node (get_or followed node 0 + 1)) + 1
edges_less [] followed node e l less = absurd (omega arith)
edges_less (row ∷ rows) [] node e l less = absurd (omega arith)
edges_less (row ∷ rows) (edge ∷ edges) zero e l less = omega arith
edges_less (row ∷ rows) (edge ∷ edges) (suc node) e l less = omega (arith, edges_less rows edges node (omega arith) (omega arith) less)
