use Rattle.std.proofs.Common.{inl, refl}
use Rattle.std.proofs.lemmas.Result.{err_from_is_err_and}
use Rattle.graph_lines.specs.Statements as lines
use Rattle.graph_text.proofs.Refusals.{no_step}
use Rattle.graph_text.proofs.reader.Reader.trim.Goals as goal

pub returns-in_err-parent-clause-err : goal.returns-in_err-parent-clause-err
returns-in_err-parent-clause-err c = λ table.
    let p = err_from_is_err_and c.from_residual.result c.from_residual.ensures.1 in
    let e = c.in_err-parent.ensures.err in
    rw (p.1, p.2, e.0) (no_step table c.args.self.now (lines.Trim c.args.parent c.args.budget) c.args.parent (inl refl) e.1)
