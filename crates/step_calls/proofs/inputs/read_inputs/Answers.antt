use Rattle.std.proofs.Common.{◌<◌, length, List, ℕ, [], sym, subst, arith}
use Rattle.byte_calls.specs.declared.spans.Span.{Span}
use Rattle.byte_calls.specs.Spans.{inputs_of}
use Rattle.field_calls.specs.Reading.{IsTypedContextOf}
use Rattle.step_calls.specs.Inputs.{IsMisreadAt, IsMisreadOf}
use Rattle.step_calls.proofs.InputLaws.{typed_next, misread_there, span_at, inputs_len, handed_on}
use Rattle.step_calls.proofs.inputs.read_inputs.Goals as goal

-- What there is where there is no input.
abbrev no_span : Span
no_span = record { bytes = record { ref_ptr = (0, 0); now = [] } }

pub returns-in_err-context-clause-refused : goal.returns-in_err-context-clause-refused
returns-in_err-context-clause-refused c =
    let nodes = c.args.table.now in
    let spans = c.args.inputs.now in
    let place = c.loop-place.place in
    let refusal = c.in_err-context.field-0.0 in
    let here : place < length spans = omega (arith, c.loop-place-test.true) in
    let within : place < length (inputs_of spans) = omega (arith, here, inputs_len spans) in
    handed_on c.from_residual.result refusal (IsMisreadOf nodes (inputs_of spans)) c.from_residual.ensures.1
    (misread_there nodes (inputs_of spans) place c.loop-place.contexts.items refusal within c.loop-place.invariant
    (subst (λ (bytes : List ℕ). IsMisreadAt nodes place bytes refusal) (sym (span_at spans place no_span here)) c.in_err-context.ensures.refused))

pub loop-place-preserved : goal.loop-place-preserved
loop-place-preserved c =
    let nodes = c.args.table.now in
    let spans = c.args.inputs.now in
    let place = c.loop-place.place in
    let context = c.in_ok-context.context in
    let here : place < length spans = omega (arith, c.loop-place-test.true) in
    let within : place < length (inputs_of spans) = omega (arith, here, inputs_len spans) in
    typed_next nodes (inputs_of spans) place c.loop-place.contexts.items c.push_context.new.contexts.items context within c.loop-place.invariant
    (subst (λ (bytes : List ℕ). IsTypedContextOf nodes context bytes) (sym (span_at spans place no_span here)) c.in_ok-context.ensures.read)
    c.in_ok-push_context.ensures
