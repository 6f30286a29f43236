use Rattle.std.proofs.Common.{◌≡◌, map, take}
use Rattle.bdl_parser.specs.Views.{struct_field_of}
use Rattle.bdl_check.specs.Layouts.{struct_words}
use Rattle.bdl_check.proofs.struct_kinds.struct_kinds.Given as goal

abbrev pub invariant-loop-field : goal.invariant-loop-field
invariant-loop-field l = l.kinds ≡ struct_words (map struct_field_of (take l.field-index l.field-items))
