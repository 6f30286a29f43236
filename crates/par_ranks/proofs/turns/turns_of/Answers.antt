use Rattle.std.proofs.Common.{ℕ, ◌+◌, ◌*◌, ◌<◌, ◌≤◌, List, [], ◌∷◌, length, slice_index, All, sym, ap, ◌∙◌, subst, length-append, arith}
use Rattle.recorded_graph.specs.Plain.{step_of}
use Rattle.trace_model.specs.Graphs.{HasStep}
use Rattle.par_ranks.specs.Turns.{AreTurns}
use Rattle.par_ranks.proofs.Giving.{parents_before}
use Rattle.par_ranks.proofs.Turning.{turns_more, no_turns}
use Rattle.par_ranks.proofs.turns.turns_of.Goals as goal

pub loop-number-init : goal.loop-number-init
loop-number-init c =
    let none = c.in_ok-turns.ensures.items in
    record { as_many = ap length none; turns = subst (AreTurns c.args.graph.now) (sym none) (no_turns c.args.graph.now) }

pub turn_after-turn-requires-clause-parents : goal.turn_after-turn-requires-clause-parents
turn_after-turn-requires-clause-parents c =
    let many = ap length c.as_slice.ensures.value ∙ c.loop-number.invariant.as_many in
    parents_before c.args.graph.now c.loop-number.number (step_of c.step-own.result.now) c.parents.result.now (length c.as_slice.result.now) c.known.ensures.sound c.step-own.ensures
    c.parents.ensures (omega (arith, many))

pub loop-number-preserved : goal.loop-number-preserved
loop-number-preserved c =
    let graph = c.args.graph.now in
    let turns = c.loop-number.turns.items in
    let turn = c.turn_after-turn.result in
    let places = c.parents.result.now in
    let own = step_of c.step-own.result.now in
    let many = c.loop-number.invariant.as_many in
    let items = c.in_ok-push.ensures.items in
    let longer = ap length items in
    let one_more = length-append turns (turn ∷ []) in
    let told : (turn ≤ 2 * length turns + 1) × All (λ parent. slice_index turns parent < turn) places =
    subst (λ (ts : List ℕ). (turn ≤ 2 * length ts + 1) × All (λ parent. slice_index ts parent < turn) places) c.as_slice.ensures.value (c.turn_after-turn.ensures.low, c.turn_after-turn.ensures.later) in
    record {
      as_many = omega (arith, longer, one_more, many);
      turns = subst (AreTurns graph) (sym items)
          (turns_more graph turns turn c.known.ensures.sound own places c.loop-number.invariant.turns (subst (λ (k : ℕ). HasStep graph k own) (sym many) c.step-own.ensures) c.parents.ensures told.0 told.1);
    }
