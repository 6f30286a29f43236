use Rattle.std.proofs.Common.{ℕ, ◌<◌, List, length, sym, subst}
use Rattle.trace_model.specs.Runs.{Lists}
use Rattle.trace_model.specs.Faithful.{IsFaithful}
use Rattle.par_ranks.specs.Turns.{IsPlan, AreRows}
use Rattle.par_ranks.proofs.Turning.{planned}
use Rattle.par_ranks.proofs.runs.run_ranks.Goals as goal

pub run_rows-requires-clause-plan : goal.run_rows-requires-clause-plan
run_rows-requires-clause-plan g c κs within =
    let graph = c.args.graph.now in
    let rows = c.in_ok-rows.rows.items in
    let rowed = subst (λ (turns : List ℕ). AreRows turns (length turns) rows) c.as_slice-2.ensures.value c.in_ok-rows.ensures in
    subst (IsPlan graph) (sym c.as_slice-3.ensures.value) (planned graph c.in_ok-turns.turns.items rows c.in_ok-turns.ensures.as_many c.in_ok-turns.ensures.turns rowed)

pub returns-clause-faithful : goal.returns-clause-faithful
returns-clause-faithful g c =
    subst (λ (lists : Lists). (n : ℕ) → n < length (c.args.graph.now).steps → IsFaithful c.args.table.now c.args.graph.now lists n)
    c.as_slice-4.ensures.value c.tell_of_run.ensures.faithful
