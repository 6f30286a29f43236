use Rattle.std.proofs.Common.{◌≡◌, ◌≤◌, length, ap, ◌∙◌, arith}
use Rattle.context_model.specs.Framing.{form_of, offset_of, size_of}
use Rattle.table_calls.proofs.Offsets.{offset_within}
use Rattle.table_calls.proofs.reports.typed_context.Goals as goal

pub overflow_cast-offset : goal.overflow_cast-offset
overflow_cast-offset c =
    let bytes = c.args.bytes.now in
    let form = form_of bytes in
    let list = c.in_ok-context.context in
    let place = c.in-Err.place in
    let same : c.offset-offset.result ≡ offset_of form list place = c.offset-offset.ensures ∙ ap (λ form. offset_of form c.list.result.now place) c.form_of.ensures ∙ ap (λ list. offset_of form list place) c.list.ensures.list in
    let whole : length bytes ≡ size_of form list = ap length c.in_ok-context.ensures.found.2 in
    let within : offset_of form list place ≤ size_of form list = offset_within form list place in
    omega (arith, same, whole, within)
