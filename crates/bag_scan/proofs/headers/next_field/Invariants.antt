use Rattle.field_table.specs.Plain.{nodes_of}
use Rattle.bag_scan.specs.Headers.{PassesNoField}
use Rattle.bag_scan.proofs.headers.next_field.Given as goal

abbrev pub invariant-loop-at : goal.invariant-loop-at
invariant-loop-at l = PassesNoField (nodes_of l.fields) l.list l.level l.from l.at
