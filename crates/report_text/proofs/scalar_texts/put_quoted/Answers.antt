use Rattle.report_text.proofs.Grown.{unchanged, stopped}
use Rattle.report_text.proofs.scalar_texts.put_quoted.Goals as goal

pub returns-in_err-put_escaped : goal.returns-in_err-put_escaped
returns-in_err-put_escaped c =
    stopped _ c.from_residual-in_err-put_escaped.result _ _ _ _ _ _ c.from_residual-in_err-put_escaped.ensures.1 c.loop-byte.invariant c.in_err-put_escaped.ensures.err

pub returns-in_err-push-2 : goal.returns-in_err-push-2
returns-in_err-push-2 c =
    stopped _ c.from_residual-in_err-push-2.result _ _ _ _ _ _ c.from_residual-in_err-push-2.ensures.1 c.loop-byte.invariant (unchanged _ _ c.in_err-push-2.ensures.items)
