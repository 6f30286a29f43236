use Rattle.std.proofs.Common.{◌≡◌, map, take}
use Rattle.bdl_parser.specs.Views.{bag_field_of}
use Rattle.bdl_check.proofs.layouts.sorted_fields.Given as goal

abbrev pub invariant-loop-field : goal.invariant-loop-field
invariant-loop-field l = map (λ field. bag_field_of field.now) l.sorted.items ≡ map bag_field_of (take l.field-index l.field-items)
