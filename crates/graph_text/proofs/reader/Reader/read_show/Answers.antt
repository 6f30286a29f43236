use Rattle.std.proofs.Common.{inl, inr, refl}
use Rattle.std.proofs.lemmas.Result.{err_from_is_err_and}
use Rattle.graph_text.specs.declared.faults.GraphCode.TheVariants.{NoSuchStep}
use Rattle.graph_text.proofs.reader.Reader.read_show.Goals as goal

pub returns-in_err-step-clause-err : goal.returns-in_err-step-clause-err
returns-in_err-step-clause-err c = λ table.
    let p = err_from_is_err_and c.from_residual.result c.from_residual.ensures.1 in
    let e = c.in_err-step.ensures.err in
    rw (p.1, p.2, e.0) (inl (NoSuchStep, inr (λ no. no, inl (refl, (c.args.step, inl refl, e.1))), refl))
