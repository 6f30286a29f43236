use Rattle.std.proofs.Common.{◌≡◌, ◌↔◌, ℕ, suc, ◌+◌, ◌-◌, ◌<◌, ◌≤◌, Bool, true, false, List, Option, Some, None, IsTrue, refl, sym, subst, arith}
use Rattle.trace_model.specs.Graphs.{Graph, IsGraph}
use Rattle.trace_model.specs.Truth.{Reaches}
use Rattle.recorded_graph.specs.Plain.{step_of}
use Rattle.write_proof.specs.Reaching.{AreChildren, IsOnWay}
use Rattle.write_proof.proofs.Reached.{children_none, on_way, child_passed, child_marked, parents_within}
use Rattle.write_proof.proofs.reaching.least_children.Goals as goal

-- What is like none in a way in which nothing that is there is like it is none.
only_none : (Like : Option ℕ → Type 0) → ((x : ℕ) → Like (Some x) → ⊥) → (found : Option ℕ) → Like found → found ≡ None
only_none Like out None like = refl
only_none Like out (Some x) like = absurd (out x like)

pub loop-child-init : goal.loop-child-init
loop-child-init c = children_none c.args.graph.now c.known.ensures.sound c.args.last c.in_ok-children.children.items (c.in_ok-children.ensures.items_if_clones_equal (only_none _ (λ x like. like)))

pub mark_parents-requires : goal.mark_parents-requires
mark_parents-requires c =
    parents_within c.args.graph.now c.known.ensures.sound c.args.last (c.loop-child.child - 1) (step_of c.step.result.now) c.parents.result.now c.loop-child.children.items c.loop-child.child c.step.ensures c.parents.ensures (omega arith) c.loop-child.invariant

-- Of the steps from the next on all children are known, so it is known whether the step before is on the way.
told : (graph : Graph) (sound : IsGraph graph) (n at : ℕ) (children seen : List (Option ℕ)) (found : Bool) → 0 < at → at ≤ n + 1 → AreChildren graph n at children → seen ≡ children
    → IsTrue found ↔ IsOnWay seen n (at - 1) → IsTrue found ↔ Reaches graph (at - 1) n
told graph sound n at children seen found some within are same is =
    let own = on_way graph sound n at (at - 1) children are (omega (arith, some)) (omega (arith, within)) in
    (λ t. own.0 (subst (λ l. IsOnWay l n (at - 1)) same (is.0 t)), λ r. is.1 (subst (λ l. IsOnWay l n (at - 1)) (sym same) (own.1 r)))

at_next : (graph : Graph) (n at : ℕ) (children : List (Option ℕ)) → 0 < at → AreChildren graph n at children → AreChildren graph n (suc (at - 1)) children
at_next graph n at children some are = let e : at ≡ suc (at - 1) = omega (arith, some) in subst (λ k. AreChildren graph n k children) e are

pub loop-child-preserved-then-is_on_way : goal.loop-child-preserved-then-is_on_way
loop-child-preserved-then-is_on_way c =
    let graph = c.args.graph.now in
    let sound = c.known.ensures.sound in
    let children = c.loop-child.children.items in
    let on = told graph sound c.args.last c.loop-child.child children c.deref.result.now true (omega arith) (omega arith) c.loop-child.invariant c.deref.ensures.value c.if-is_on_way.ensures in
    child_marked graph sound c.args.last (c.loop-child.child - 1) (step_of c.step.result.now) c.parents.result.now children c.mark_parents.new.children.items c.step.ensures c.parents.ensures (on.0 refl) c.mark_parents.ensures
    (at_next graph c.args.last c.loop-child.child children (omega arith) c.loop-child.invariant)

pub loop-child-preserved : goal.loop-child-preserved
loop-child-preserved c =
    let graph = c.args.graph.now in
    let sound = c.known.ensures.sound in
    let children = c.loop-child.children.items in
    let on = told graph sound c.args.last c.loop-child.child children c.deref.result.now false (omega arith) (omega arith) c.loop-child.invariant c.deref.ensures.value c.if-is_on_way.ensures in
    child_passed graph sound c.args.last (c.loop-child.child - 1) children (λ r. let bad = on.1 r in cc bad) (at_next graph c.args.last c.loop-child.child children (omega arith) c.loop-child.invariant)
