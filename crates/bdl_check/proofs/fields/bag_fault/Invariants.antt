use Rattle.std.proofs.Common.{drop, map}
use Rattle.bdl_check.specs.Declarations.{kind_named}
use Rattle.bdl_check.proofs.FieldLaws.{BagLeft}
use Rattle.bdl_parser.specs.Views.{bag_field_of}
use Rattle.bdl_check.proofs.fields.bag_fault.Given as goal

abbrev pub invariant-loop-field : goal.invariant-loop-field
invariant-loop-field l = BagLeft (kind_named l.declarations) l.numbers l.texts l.fields (map bag_field_of (drop l.field-index l.field-items))
