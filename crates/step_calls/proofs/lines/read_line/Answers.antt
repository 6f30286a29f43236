use Rattle.bag_value.specs.Vals.{plain}
use Rattle.bag_walks.proofs.SlotShapes.{slot_has_shape}
use Rattle.field_table.specs.Plain.{shape_of}
use Rattle.step_calls.proofs.LineLaws.{no_slot, no_text, within, no_value, says, of_shape, fits}
use Rattle.step_calls.proofs.NameTexts.{begins_so}
use Rattle.step_calls.proofs.lines.read_line.Goals as goal

pub returns-in_default-clause-err : goal.returns-in_default-clause-err
returns-in_default-clause-err c =
    let line = c.args.line.now in
    let path = c.split_path.result.0.now in
    let rest = c.split_path.result.1.now in
    let split = c.split_path.ensures.same in
    let begins = begins_so line path rest split c.split_path.ensures.path c.split_path.ensures.end in
    no_slot c.args.form c.args.table.now c.nodes.ensures.table line path rest begins split c.in_default.ensures

pub returns-in_default-text_between-clause-err : goal.returns-in_default-text_between-clause-err
returns-in_default-text_between-clause-err c =
    let line = c.args.line.now in
    let path = c.split_path.result.0.now in
    let rest = c.split_path.result.1.now in
    let split = c.split_path.ensures.same in
    let begins = begins_so line path rest split c.split_path.ensures.path c.split_path.ensures.end in
    no_text c.args.form c.args.table.now c.nodes.ensures.table line path rest begins split c.in-Some.slot c.in-Some.ensures c.in_default-text_between.ensures

pub shape-requires : goal.shape-requires
shape-requires c =
    let line = c.args.line.now in
    let path = c.split_path.result.0.now in
    let rest = c.split_path.result.1.now in
    let split = c.split_path.ensures.same in
    let begins = begins_so line path rest split c.split_path.ensures.path c.split_path.ensures.end in
    within c.args.form c.args.table.now c.nodes.ensures.table line path rest begins split c.in-Some.slot c.in-Some.ensures

pub read_write-requires : goal.read_write-requires
read_write-requires c = slot_has_shape c.args.table.now c.in-Some.slot (shape_of c.shape.result.now) c.nodes.ensures.table c.shape.ensures

pub returns-in_default-2-clause-err : goal.returns-in_default-2-clause-err
returns-in_default-2-clause-err c =
    let line = c.args.line.now in
    let path = c.split_path.result.0.now in
    let rest = c.split_path.result.1.now in
    let split = c.split_path.ensures.same in
    let begins = begins_so line path rest split c.split_path.ensures.path c.split_path.ensures.end in
    no_value c.args.form c.args.table.now c.nodes.ensures.table line path rest begins split c.in-Some.slot c.in-Some.ensures c.in-Some-text_between.text.now (shape_of c.shape.result.now) c.in-Some-text_between.ensures c.shape.ensures (rw c.in_default-2.is at c.in_ok-value.ensures)

pub encode_slot-requires-clause-slot : goal.encode_slot-requires-clause-slot
encode_slot-requires-clause-slot c =
    let line = c.args.line.now in
    let path = c.split_path.result.0.now in
    let rest = c.split_path.result.1.now in
    let split = c.split_path.ensures.same in
    let begins = begins_so line path rest split c.split_path.ensures.path c.split_path.ensures.end in
    within c.args.form c.args.table.now c.nodes.ensures.table line path rest begins split c.in-Some.slot c.in-Some.ensures

pub encode_slot-requires-clause-shape : goal.encode_slot-requires-clause-shape
encode_slot-requires-clause-shape c =
    let line = c.args.line.now in
    let path = c.split_path.result.0.now in
    let rest = c.split_path.result.1.now in
    let split = c.split_path.ensures.same in
    let begins = begins_so line path rest split c.split_path.ensures.path c.split_path.ensures.end in
    of_shape c.args.form c.args.table.now c.nodes.ensures.table line path rest begins split c.in-Some.slot c.in-Some.ensures c.in-Some-text_between.text.now (shape_of c.shape.result.now) c.in-Some-text_between.ensures c.shape.ensures (plain c.in-Some-2.value) (rw c.in-Some-2.is at c.in_ok-value.ensures)

pub encode_slot-requires-clause-fits : goal.encode_slot-requires-clause-fits
encode_slot-requires-clause-fits c =
    let line = c.args.line.now in
    let path = c.split_path.result.0.now in
    let rest = c.split_path.result.1.now in
    let split = c.split_path.ensures.same in
    let begins = begins_so line path rest split c.split_path.ensures.path c.split_path.ensures.end in
    fits c.args.form c.args.table.now c.nodes.ensures.table line path rest begins split c.in-Some.slot c.in-Some.ensures c.in-Some-text_between.text.now (shape_of c.shape.result.now) c.in-Some-text_between.ensures c.shape.ensures (plain c.in-Some-2.value) (rw c.in-Some-2.is at c.in_ok-value.ensures)

pub returns-clause-ok : goal.returns-clause-ok
returns-clause-ok c =
    let line = c.args.line.now in
    let path = c.split_path.result.0.now in
    let rest = c.split_path.result.1.now in
    let split = c.split_path.ensures.same in
    let begins = begins_so line path rest split c.split_path.ensures.path c.split_path.ensures.end in
    ((c.in-Some.slot, plain c.in-Some-2.value), says c.args.form c.args.table.now c.nodes.ensures.table line path rest begins split c.in-Some.slot c.in-Some.ensures c.in-Some-text_between.text.now (shape_of c.shape.result.now) c.in-Some-text_between.ensures c.shape.ensures (plain c.in-Some-2.value) (rw c.in-Some-2.is at c.in_ok-value.ensures), c.in_ok-encode_slot.ensures)
