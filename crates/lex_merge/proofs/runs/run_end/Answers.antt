use Rattle.std.proofs.Common.{◌+◌, if◌then◌else◌, subst}
use Rattle.lex_merge.specs.Runs.{IsMergeRun}
use Rattle.lex_merge.proofs.Taking.{run_none, run_run}
use Rattle.lex_merge.proofs.runs.run_end.Goals as goal

pub loop-other-init : goal.loop-other-init
loop-other-init c = run_none c.args.a.now c.args.i c.args.b.now c.args.j c.requires.first c.requires.second

pub returns-then-not-equal-clause-run : goal.returns-then-not-equal-clause-run
returns-then-not-equal-clause-run c =
    let behind = c.run_to-behind.result.0 in
    let other = c.loop-other.other in
    run_run c.args.a.now c.args.i c.args.b.now c.args.j c.loop-other.next other behind other c.loop-other.invariant
    (subst (λ equal. IsMergeRun c.args.a.now c.loop-other.next c.args.b.now other behind (if equal then other + 1 else other)) c.if-not-equal.true c.run_to-behind.ensures.run)

pub loop-other-preserved : goal.loop-other-preserved
loop-other-preserved c =
    let behind = c.run_to-behind.result.0 in
    let other = c.loop-other.other in
    run_run c.args.a.now c.args.i c.args.b.now c.args.j c.loop-other.next other behind (other + 1) c.loop-other.invariant
    (subst (λ equal. IsMergeRun c.args.a.now c.loop-other.next c.args.b.now other behind (if equal then other + 1 else other)) c.if-not-equal.false c.run_to-behind.ensures.run)
