use Rattle.std.proofs.Common.{◌<◌, length, Some, sym, ◌∙◌, ap, arith}
use Rattle.std.specs.Option.{option_map}
use Rattle.std.proofs.lemmas.Option.{slice_get_past, slice_get-get_or}
use Rattle.field_table.specs.declared.shapes.Shape.TheViews.{out-Slots}
use Rattle.field_table.specs.Plain.{field_of}
use Rattle.field_table.proofs.Opened.{get_field}
use Rattle.field_table.proofs.shapes.Slots.get.Goals as goal

pub returns-then-at-len : goal.returns-then-at-len
returns-then-at-len c =
    let items = (out-Slots c.args.self.now).items in
    let x = c.index.result.now in
    let within : c.args.at < length items.items = omega (arith, items.ok.0) in
    sym (get_field c.args.self.now c.args.at ∙ ap (option_map field_of) (slice_get-get_or items.items c.args.at x within) ∙ ap (λ y. Some (field_of y)) (sym c.index.ensures))

pub returns-else-at-len : goal.returns-else-at-len
returns-else-at-len c =
    let items = (out-Slots c.args.self.now).items in
    sym (get_field c.args.self.now c.args.at ∙ ap (option_map field_of) (slice_get_past items.items c.args.at (omega (arith, items.ok.0))))
