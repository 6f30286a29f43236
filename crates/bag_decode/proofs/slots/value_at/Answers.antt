use Rattle.std.proofs.Common.{◌≡◌, length, sym, ap, ◌∙◌}
use Rattle.bag_model.specs.Values.{bottom}
use Rattle.bag_value.specs.Vals.{plain}
use Rattle.bag_value.specs.declared.vals.Val.{Val}
use Rattle.field_table.specs.Plain.{shape_of}
use Rattle.bag_decode.specs.Slots.{SaysAt}
use Rattle.bag_decode.proofs.SlotCalls.{bottom_says, call_fits, if_ok_so}
use Rattle.bag_decode.proofs.slots.value_at.Goals as goal

pub decode_field-requires : goal.decode_field-requires
decode_field-requires c =
    let numbers = c.as_slice-level.result.now in
    let shape = shape_of c.shape-shape.result.now in
    let own = c.as_slice-level.ensures.numbers in
    let fits = call_fits c.args.table.now c.args.context.now c.args.slot c.args.from shape c.known.ensures c.requires.typed c.requires.place c.shape-shape.ensures
    c.list.result.now c.in-Some.from c.numbers.result c.list.ensures.list c.in-Some.is c.numbers.ensures in
    record {
      behind = fits.behind;
      level = fits.level ∙ ap length (sym own);
      shape = fits.shape_is;
      room = rw own fits.room;
      typed = fits.typed;
    }

pub returns-in_ok-value-in-Some : goal.returns-in_ok-value-in-Some
returns-in_ok-value-in-Some c =
    let shape = shape_of c.shape-shape.result.now in
    let fits = call_fits c.args.table.now c.args.context.now c.args.slot c.args.from shape c.known.ensures c.requires.typed c.requires.place c.shape-shape.ensures
    c.list.result.now c.in-Some.from c.numbers.result c.list.ensures.list c.in-Some.is c.numbers.ensures in
    fits.says (plain c.in_ok-value-in-Some.value) c.in_ok-value-in-Some.ensures.value

pub returns-in-None : goal.returns-in-None
returns-in-None c =
    let shape = shape_of c.shape-shape.result.now in
    if_ok_so (λ (value : Val). plain value ≡ bottom shape) (λ (value : Val). SaysAt c.args.table.now c.args.context.now c.args.slot (plain value)) c.bottom_of.result
    (λ value is. bottom_says c.args.table.now c.args.context.now c.args.slot c.args.from shape c.known.ensures c.requires.typed c.requires.place c.shape-shape.ensures c.in-None.is (plain value) is)
    c.bottom_of.ensures
