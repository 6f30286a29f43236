use Rattle.std.proofs.Common.{◌+◌, arith}
use Rattle.lex_merge.proofs.Taking.{run_none, run_less, run_run, later_back}
use Rattle.lex_merge.proofs.runs.run_behind.Goals as goal

pub returns-clause-run : goal.returns-clause-run
returns-clause-run c =
    let a = c.args.a.now in
    let b = c.args.b.now in
    let i = c.args.i in
    let j = c.args.j in
    let first = run_less a i b j i j (run_none a i b j c.requires.first c.requires.second) (omega arith) (omega arith) (later_back b j a i c.requires.before (omega arith) (omega arith)) in
    run_run a i b j (i + 1) j c.run_end.result.0 c.run_end.result.1 first c.run_end.ensures.run
