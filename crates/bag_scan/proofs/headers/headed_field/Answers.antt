use Rattle.std.proofs.Common.{ℕ, Bor, Option, MatchOption, sym, subst}
use Rattle.bag_model.specs.Shapes.{Field}
use Rattle.field_table.specs.declared.shapes.Slot.{Slot}
use Rattle.field_table.specs.Plain.{field_of, nodes_of}
use Rattle.bag_scan.specs.Headers.{IsFieldHeader}
use Rattle.bag_scan.proofs.FieldHeaders.{heads_index, finds_headed}
use Rattle.bag_scan.proofs.headers.headed_field.Goals as goal

pub returns-in_err-number-clause-field : goal.returns-in_err-number-clause-field
returns-in_err-number-clause-field c =
    let nodes = nodes_of c.args.fields.now in
    let atom = c.args.atom.now in
    subst (λ (o : Option (ℕ × Bor Slot)). MatchOption o ((at : ℕ) (field : Field) → IsFieldHeader nodes c.args.level atom at field → ⊥) (λ found. IsFieldHeader nodes c.args.level atom found.0 (field_of found.1.now)))
    (sym c.from_residual.ensures)
    (λ at field heads. c.in_err-number.ensures field.number (heads_index nodes c.args.level atom at field c.requires.fields c.requires.room heads))

pub returns-clause-field : goal.returns-clause-field
returns-clause-field c =
    finds_headed (nodes_of c.args.fields.now) c.args.level c.args.atom.now c.in_ok-number.number c.find_number.result (λ found. (found.0, field_of found.1.now))
    c.requires.fields c.requires.room c.in_ok-number.ensures c.find_number.ensures.found
