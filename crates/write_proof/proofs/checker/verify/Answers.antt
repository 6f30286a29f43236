use Rattle.std.proofs.Common.{List, map, sym, subst}
use Rattle.write_proof.specs.declared.entries.Entry.{Entry}
use Rattle.write_proof.specs.Verdicts.{SaysAll}
use Rattle.write_proof.specs.Views.{entry_of}
use Rattle.write_proof.proofs.WholeVerdict.{told_here, yes_tells_truth}
use Rattle.write_proof.proofs.checker.verify.Goals as goal

pub returns-in-Ok-clause-sound : goal.returns-in-Ok-clause-sound
returns-in-Ok-clause-sound c =
    let table = c.args.table.now in
    let graph = c.args.graph.now in
    let certificate = c.args.certificate.now in
    let says = rw c.in-Ok.is at c.in_ok-entries.ensures in
    yes_tells_truth table graph certificate c.check_entries.result c.known.ensures.table c.known.ensures.graph c.requires
    (told_here table graph certificate (map entry_of c.as_slice.result.now) c.check_entries.result
    (subst (λ (l : List Entry). SaysAll table graph certificate (map entry_of l)) (sym c.as_slice.ensures.value) says) c.check_entries.ensures)
