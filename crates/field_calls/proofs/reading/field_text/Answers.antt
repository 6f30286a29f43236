use Rattle.std.proofs.Common.{◌≡◌, sym, ap, ◌∙◌}
use Rattle.bag_model.specs.Slots.{name_path}
use Rattle.bag_value.specs.Vals.{plain}
use Rattle.text_model.specs.ValueTexts.{value_text}
use Rattle.field_calls.proofs.reading.field_text.Goals as goal

pub returns-clause-read : goal.returns-clause-read
returns-clause-read c =
    let found = c.in_ok-field.ensures.found in
    let said = c.in_ok-reading.ensures.value in
    let value = plain c.in_ok-reading.reading.value in
    let same : found.0 ≡ said.0 = cc (found.1, said.1) in
    record {
      list = c.in_ok-context.context;
      typed = c.in_ok-context.ensures.read;
      slot = c.in_ok-field.field.slot;
      at = said.0;
      field = record { there = said.1; named = ap name_path (sym same) ∙ sym found.2 ∙ c.in_ok-field.ensures.named };
      ended = c.in_ok-reading.ensures.state said.0 said.1;
      value = value;
      says = said.2;
      told = c.in_ok-text.ensures ∙ ap (λ shape. value_text shape value) (c.shape.ensures.own said.0 said.1);
    }
