use Rattle.std.proofs.Common.{Some, ap, sym, ◌∙◌}
use Rattle.bdl_load.specs.Faults.{found}
use Rattle.bdl_check.specs.Types.{type_place}
use Rattle.bdl_parser.specs.declared.trees.Spot.{Spot}
use Rattle.bdl_parser.specs.Views.{tree_of}
use Rattle.bdl_check.proofs.DeclLaws.{spot_at}
use Rattle.bdl_check.proofs.types.node_fault.Goals as goal

pub returns : goal.returns
returns c =
    ap (λ (spot : Spot). Some (found spot c.in_ok-code.code)) (sym (spot_at c.args.node.now.at c.args.node.now.form))
    ∙ c.in_ok-code.ensures (type_place (tree_of c.args.node.now))
