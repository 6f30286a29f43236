use Rattle.std.proofs.Common.{map, subst}
use Rattle.bag_model.specs.Slots.{FindsSlot}
use Rattle.write_proof.specs.Views.{entry_of}
use Rattle.write_proof.proofs.WholeVerdict.{path_known, read_of, slot_found, verdicts_so, cut_short}
use Rattle.write_proof.proofs.checker.check_entries.Goals as goal

pub unwrap-slot-requires : goal.unwrap-slot-requires
unwrap-slot-requires c =
    let said = map entry_of c.args.entries.now in
    let path = c.in-Some.field-0.path.now in
    slot_found c.args.table.now path c.find.result c.find.ensures (path_known c.args.table.now c.args.graph.now c.requires.said.0 said c.requires.said.1 path c.in-Some.field-0.text.now c.in-Some.ensures)

pub check_together-requires-clause-read : goal.check_together-requires-clause-read
check_together-requires-clause-read c =
    let said = map entry_of c.args.entries.now in
    let path = c.in-Some.field-0.path.now in
    let r =
    read_of c.args.table.now c.args.graph.now c.requires.said.0 said c.requires.said.1 path c.in-Some.field-0.text.now c.unwrap-slot.result c.in-Some.ensures
    (subst (FindsSlot c.args.table.now path) c.unwrap-slot.ensures c.find.ensures)
    in
    (c.requires.said.0, r.0, r.1)

pub returns-in-Some : goal.returns-in-Some
returns-in-Some c =
    let path = c.in-Some.field-0.path.now in
    verdicts_so c.args.table.now c.args.graph.now (map entry_of c.args.entries.now) c.unwrap-slot.result path c.in-Some.field-0.text.now c.check_together.result c.in-Some.ensures
    (subst (FindsSlot c.args.table.now path) c.unwrap-slot.ensures c.find.ensures) c.check_together.ensures

pub returns-in-None : goal.returns-in-None
returns-in-None c = λ certificate all. cut_short c.args.table.now c.args.graph.now c.args.entries.now c.in-None.ensures certificate all
