use Rattle.std.proofs.Common.{ℕ, ◌<◌, length, subst}
use Rattle.trace_model.specs.Graphs.{IsTypedContext}
use Rattle.trace_model.specs.Runs.{Lists, list_at}
use Rattle.trace_model.specs.Faithful.{IsFaithful}
use Rattle.graph_runner.specs.Runs.{AlikeStepsAgree}
use Rattle.graph_runner.proofs.runs.run_gated.Goals as goal

pub returns-clause-faithful : goal.returns-clause-faithful
returns-clause-faithful g c =
    subst (λ (lists : Lists). (n : ℕ) → n < length (c.args.graph.now).steps → IsFaithful c.args.table.now c.args.graph.now lists n)
    c.as_slice.ensures.value c.tell_of_run.ensures.faithful

pub returns-clause-alike : goal.returns-clause-alike
returns-clause-alike g c =
    subst (λ (lists : Lists). AlikeStepsAgree c.args.table.now c.args.graph.now lists) c.as_slice.ensures.value c.tell_of_run.ensures.alike

pub returns-clause-typed : goal.returns-clause-typed
returns-clause-typed g c =
    subst (λ (lists : Lists). (n : ℕ) → n < length lists → IsTypedContext c.args.table.now (list_at lists n)) c.as_slice.ensures.value c.tell_of_run.ensures.typed
