use Rattle.std.proofs.Common.{drop, map}
use Rattle.bdl_check.specs.Declarations.{kind_named}
use Rattle.bdl_check.proofs.FieldLaws.{StructLeft}
use Rattle.bdl_parser.specs.Views.{struct_field_of}
use Rattle.bdl_check.proofs.fields.struct_fault.Given as goal

abbrev pub invariant-loop-field : goal.invariant-loop-field
invariant-loop-field l = StructLeft (kind_named l.declarations) l.texts l.fields (map struct_field_of (drop l.field-index l.field-items))
