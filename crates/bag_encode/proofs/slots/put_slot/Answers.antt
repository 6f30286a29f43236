use Rattle.std.proofs.Common.{◌++◌, length, Some, refl, sym, ap, ◌∙◌, subst, append-nil, append_assoc}
use Rattle.std.proofs.lemmas.Result.{on_ok_weaker}
use Rattle.context_model.specs.Atoms.{AreAtoms}
use Rattle.context_model.specs.Ended.{field_path}
use Rattle.bag_model.specs.Joins.{IsBottom}
use Rattle.bag_value.specs.Vals.{plain}
use Rattle.field_table.specs.Plain.{shape_of}
use Rattle.bag_encode.specs.Values.{atoms_of}
use Rattle.bag_encode.proofs.FieldSteps.{AreAtoms-back}
use Rattle.bag_encode.proofs.SlotSteps.{bottom_slot, IsWritten, slot_written}
use Rattle.bag_encode.proofs.slots.put_slot.Goals as goal

pub returns-then-is_bottom : goal.returns-then-is_bottom
returns-then-is_bottom c =
    sym (append-nil c.args.list.now)
    ∙ ap (λ l. c.args.list.now ++ l) (sym (bottom_slot c.args.table.now c.args.slot (plain c.args.value.now) c.requires.slot (c.if-is_bottom.ensures.value.0 refl)))

pub put_value-requires : goal.put_value-requires
put_value-requires c =
    let nodes = c.args.table.now in
    let v = plain c.args.value.now in
    let numbers = c.as_slice-numbers.result.now in
    let shape = shape_of c.shape.result.now in
    let some : ¬ (IsBottom v) = λ b. (let clash = c.if-is_bottom.ensures.value.1 b in cc) in
    let written : IsWritten nodes c.args.slot v c.requires.slot c.requires.shape numbers shape =
    slot_written nodes c.args.slot v c.requires.slot c.requires.shape numbers shape c.requires.table (ap Some c.as_slice-numbers.ensures.numbers ∙ c.numbers-path.ensures) c.shape.ensures
    in
    record {
      shape = written.is;
      levels = written.room;
      fits = AreAtoms-back (field_path numbers) (atoms_of shape (length numbers) v) (subst AreAtoms (written.laid some) c.requires.fits);
    }

pub returns : goal.returns
returns c =
    let nodes = c.args.table.now in
    let v = plain c.args.value.now in
    let numbers = c.as_slice-numbers.result.now in
    let shape = shape_of c.shape.result.now in
    let under = atoms_of shape (length numbers) v in
    let some : ¬ (IsBottom v) = λ b. (let clash = c.if-is_bottom.ensures.value.1 b in cc) in
    let written : IsWritten nodes c.args.slot v c.requires.slot c.requires.shape numbers shape =
    slot_written nodes c.args.slot v c.requires.slot c.requires.shape numbers shape c.requires.table (ap Some c.as_slice-numbers.ensures.numbers ∙ c.numbers-path.ensures) c.shape.ensures
    in
    on_ok_weaker c.put_value.result
    (λ e. e ∙ ap (λ l. l ++ under) c.in_ok-put_headers.ensures ∙ append_assoc c.args.list.now (field_path numbers) under ∙ ap (λ l. c.args.list.now ++ l) (sym (written.laid some)))
    c.put_value.ensures
