use Rattle.std.proofs.Common.{map, take}
use Rattle.bdl_parser.specs.Views.{bag_field_of}
use Rattle.bdl_check.specs.Sizes.{HasSize}
use Rattle.bdl_check.proofs.sizes.bag_size.Given as goal

abbrev pub invariant-loop-field : goal.invariant-loop-field
invariant-loop-field l = HasSize l.declarations (map bag_field_of (take l.field-index l.field-items)) l.size
