use Rattle.bdl_parser.specs.Views.{tree_of}
use Rattle.bdl_check.proofs.TypeSizes.{map_depth}
use Rattle.bdl_check.proofs.sizes.+type_size.Given as goal

abbrev pub decreases-type_size : goal.decreases-type_size
decreases-type_size l = map_depth (tree_of l.node.now)
