use Rattle.std.proofs.Common.{◌<◌, length, arith}
use Rattle.std.proofs.lemmas.Result.{err_from_is_err_and}
use Rattle.graph_text.proofs.Members.{in_get, each_more, each_all}
use Rattle.graph_text.proofs.reader.Reader.check_earlier.Goals as goal

pub returns-in_err-earlier-clause-err : goal.returns-in_err-earlier-clause-err
returns-in_err-earlier-clause-err c =
    let p = err_from_is_err_and c.from_residual.result c.from_residual.ensures.1 in
    let e = c.in_err-earlier.ensures.err in
    rw (p.1, p.2) (e.0, (_, in_get c.args.parents.now c.loop-parent.parent-index 0 c.loop-parent-test.true, e.1))

pub loop-parent-preserved : goal.loop-parent-preserved
loop-parent-preserved c =
    let ok = c.in_ok-earlier.ensures.ok in
    each_more (λ n. n < length c.args.self.now.steps) c.args.parents.now c.loop-parent.parent-index 0 c.loop-parent-test.true c.loop-parent.invariant (omega (arith, ok.0, ok.1))

pub returns-clause-ok : goal.returns-clause-ok
returns-clause-ok c =
    each_all (λ n. n < length c.args.self.now.steps) c.args.parents.now c.loop-parent.parent-index c.loop-parent-test.false c.loop-parent.invariant
