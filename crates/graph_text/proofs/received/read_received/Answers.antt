use Rattle.std.proofs.Common.{◌∙◌, ap, inr}
use Rattle.context_model.specs.Framing.{form_of, offset_of}
use Rattle.graph_text.specs.declared.faults.LineFault.TheVariants.{IllTyped}
use Rattle.graph_text.proofs.received.read_received.Goals as goal

pub returns-in-Err-clause-err : goal.returns-in-Err-clause-err
returns-in-Err-clause-err c =
    let offset =
    c.offset.ensures ∙ ap (λ form. offset_of form c.list.result.now c.in-Err.place) (c.form_of-form.ensures ∙ ap form_of c.as_slice.ensures.value)
    ∙ ap (λ list. offset_of (form_of c.in-Ok.bytes.items) list c.in-Err.place) c.list.ensures.list in
    inr (
      c.in-Ok.ensures.ok.0,
      (
        c.in-Ok.bytes.items,
        c.in-Ok.ensures.ok.1,
        inr (c.in-Ok-read_context_owned.context, c.in-Err.place, c.in-Ok-read_context_owned.ensures.found, c.in-Err.ensures.fault, ap IllTyped offset),
      ),
    )
