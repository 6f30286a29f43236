use Rattle.std.proofs.Common.{List, ◌++◌, drop}
use Rattle.bag_model.specs.Scalars.{Plain}
use Rattle.scalar_types.proofs.PackedSteps.{SpellsFields, FieldsSpelled}
use Rattle.scalar_types.proofs.packed.take_fields.Given as goal

abbrev pub invariant-loop-word : goal.invariant-loop-word
invariant-loop-word l = record {
  back : (vs : List Plain) → SpellsFields (drop l.word-index l.words) l.rest vs → SpellsFields l.words l.bytes (l.values ++ vs);
  forth : FieldsSpelled l.words l.bytes → FieldsSpelled (drop l.word-index l.words) l.rest;
}
