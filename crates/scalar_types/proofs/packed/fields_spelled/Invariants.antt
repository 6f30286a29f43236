use Rattle.std.proofs.Common.{◌↔◌, drop}
use Rattle.scalar_types.proofs.PackedSteps.{FieldsSpelled}
use Rattle.scalar_types.proofs.packed.fields_spelled.Given as goal

abbrev pub invariant-loop-word : goal.invariant-loop-word
invariant-loop-word l = FieldsSpelled l.words l.bytes ↔ FieldsSpelled (drop l.word-index l.words) l.rest
