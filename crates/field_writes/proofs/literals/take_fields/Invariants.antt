use Rattle.field_writes.proofs.Structs.{FieldsBack, FieldsOn}
use Rattle.field_writes.proofs.literals.take_fields.Given as goal

abbrev pub invariant-loop-at : goal.invariant-loop-at
invariant-loop-at l = record {
  back : FieldsBack l.words l.at l.fields l.rest l.text;
  forth : FieldsOn l.words l.at l.fields l.rest l.text;
}
