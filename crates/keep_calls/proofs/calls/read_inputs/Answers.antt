use Rattle.std.proofs.Common.{◌+◌, List, take, sym, subst, arith}
use Rattle.context_model.specs.Atoms.{Atom}
use Rattle.byte_calls.specs.Contexts.{AreContextsOf, IsInputsRefusalOf}
use Rattle.byte_calls.specs.Spans.{inputs_of}
use Rattle.keep_calls.proofs.InputSteps.{contexts_more, refusal_there, handed_on}
use Rattle.keep_calls.proofs.calls.read_inputs.Goals as goal

pub returns-in_err-context-clause-refused : goal.returns-in_err-context-clause-refused
returns-in_err-context-clause-refused c =
    let refusal = c.in_err-context.field-0.0 in
    handed_on c.from_residual.result refusal (IsInputsRefusalOf (inputs_of c.args.inputs.now)) c.from_residual.ensures.1
    (refusal_there c.args.inputs.now c.loop-place.contexts.items c.loop-place.place _ refusal (omega (arith, c.loop-place-test.true)) c.loop-place.invariant c.in_err-context.ensures.refused)

pub loop-place-preserved : goal.loop-place-preserved
loop-place-preserved c =
    subst (λ (lists : List (List Atom)). AreContextsOf lists (take (c.loop-place.place + 1) (inputs_of c.args.inputs.now))) (sym c.in_ok-push_context.ensures)
    (contexts_more c.args.inputs.now c.loop-place.contexts.items c.loop-place.place _ c.in_ok-context.context (omega (arith, c.loop-place-test.true)) c.loop-place.invariant c.in_ok-context.ensures.found)
