use Rattle.std.proofs.Common.{◌≡◌, ℕ, ◌+◌, ◌<◌, List, [], ◌∷◌, ◌++◌, get_or, Option, None, Vec, Global, sym, ap, ◌∙◌, subst, arith}
use Rattle.std.proofs.lemmas.List.{get_or_read, map-append}
use Rattle.trace_model.specs.Graphs.{Graph}
use Rattle.write_proof.specs.declared.reaching.Reach.{Reach}
use Rattle.write_proof.specs.Reaching.{AreChildren, child_at, pairs_of}
use Rattle.write_proof.proofs.Reached.{AreReachedTo, reached_passed, reached_more, least_found, none_found, reached_all}
use Rattle.write_proof.proofs.reaching.reaching_steps.Goals as goal
use Rattle.write_proof.proofs.reaching.reaching_steps.Goals.{in-Some+in_ok-push, in_default}

found_at : (graph : Graph) (n step : ℕ) (children : List (Option ℕ)) (found : Option ℕ) → AreChildren graph n 0 children → step < n → found ≡ get_or children step found → child_at children step ≡ found
found_at graph n step children found are within is =
    let many = are.as_many in
    sym (get_or_read children step found (omega (arith, within, many)) is None)

pushed : (graph : Graph) (n k : ℕ) (before after : List Reach) (step child : ℕ) → after ≡ before ++ record { step = step; child = child } ∷ [] → AreReachedTo graph n k (pairs_of before ++ (step, child) ∷ []) → AreReachedTo graph n k (pairs_of after)
pushed graph n k before after step child is are =
    let own : Reach = record { step = step; child = child } in
    subst (AreReachedTo graph n k) (sym (ap pairs_of is ∙ map-append (λ (reach : Reach). (reach.step, reach.child)) before (own ∷ []))) are

kept : (graph : Graph) (n k : ℕ) (before after : Vec Reach Global) → after ≡ before → AreReachedTo graph n k (pairs_of before.items) → AreReachedTo graph n k (pairs_of after.items)
kept graph n k before after same are = subst (λ (v : Vec Reach Global). AreReachedTo graph n k (pairs_of v.items)) (sym same) are

pub loop-step-preserved : goal.loop-step-preserved
loop-step-preserved c = elim c.match-index.branch [
  | in-Some+in_ok-push w ↦
      (let graph = c.args.graph.now in
      let n = c.args.last in
      let step = c.loop-step.step in
      let child = w.in-Some.child in
      let children = c.in_ok-children.children.items in
      let here = found_at graph n step children c.index.result.now c.in_ok-children.ensures (omega arith) c.index.ensures ∙ w.in-Some.is in
      let l = least_found graph c.known.ensures.sound n step child children c.in_ok-children.ensures (omega arith) here in
      let more = reached_more graph c.known.ensures.sound n step child (pairs_of c.loop-step.reaching.items) c.loop-step.invariant l.0 l.1 in
      kept graph n (step + 1) w.push.new.self c.match-index.reaching w.reaching-is (pushed graph n (step + 1) c.loop-step.reaching.items w.push.new.self.items step child w.in_ok-push.ensures.items more))
  | in_default w ↦
      (let graph = c.args.graph.now in
      let n = c.args.last in
      let step = c.loop-step.step in
      let children = c.in_ok-children.children.items in
      let here = found_at graph n step children c.index.result.now c.in_ok-children.ensures (omega arith) c.index.ensures ∙ w.in_default.is in
      let out = none_found graph c.known.ensures.sound n step children c.in_ok-children.ensures (omega arith) here in
      kept graph n (step + 1) c.loop-step.reaching c.match-index.reaching w.reaching-is (reached_passed graph c.known.ensures.sound n step (pairs_of c.loop-step.reaching.items) c.loop-step.invariant out))
]

pub returns : goal.returns
returns c = reached_all c.args.graph.now c.known.ensures.sound c.args.last c.loop-step.step (pairs_of c.loop-step.reaching.items) (omega arith) c.loop-step.invariant
