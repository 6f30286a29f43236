use Rattle.std.proofs.Common.{◌≡◌, ◌≤◌, length, ap, ◌∙◌, arith}
use Rattle.context_model.specs.Framing.{form_of, offset_of, size_of}
use Rattle.step_calls.proofs.InputLaws.{offset_within}
use Rattle.step_calls.proofs.inputs.read_typed.Goals as goal

pub overflow_cast-offset : goal.overflow_cast-offset
overflow_cast-offset c =
    let bytes = c.args.bytes.now in
    let form = form_of bytes in
    let list = c.in_ok-context.context in
    let at = c.in-Err.at in
    let same : c.offset-offset.result ≡ offset_of form list at = c.offset-offset.ensures ∙ ap (λ form. offset_of form c.list.result.now at) c.form_of.ensures ∙ ap (λ list. offset_of form list at) c.list.ensures.list in
    let whole : length bytes ≡ size_of form list = ap length c.in_ok-context.ensures.found.2 in
    let within : offset_of form list at ≤ size_of form list = offset_within form list at in
    omega (arith, same, whole, within)
