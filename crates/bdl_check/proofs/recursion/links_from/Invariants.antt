use Rattle.std.proofs.Common.{◌≡◌, ◌++◌, drop, map}
use Rattle.std.specs.List.{filter_map}
use Rattle.bdl_check.specs.Declarations.{number_named}
use Rattle.bdl_check.specs.Recursion.{uses}
use Rattle.bdl_check.proofs.Links.{used}
use Rattle.bdl_parser.specs.Views.{bag_field_of}
use Rattle.bdl_check.proofs.recursion.links_from.Given as goal

abbrev pub invariant-loop-field : goal.invariant-loop-field
invariant-loop-field l =
    l.row.items ++ filter_map (number_named l.declarations) (used (map bag_field_of (drop l.field-index l.field-items))) ≡ filter_map
    (number_named l.declarations) (uses l.decl)
