use Rattle.std.proofs.Common.{◌++◌, ap, ◌∙◌, sym}
use Rattle.std.proofs.lemmas.Result.{on_ok_weaker}
use Rattle.bdl_check.specs.Declarations.{number_named}
use Rattle.bdl_check.specs.Recursion.{names_in}
use Rattle.bdl_check.proofs.Links.{both_added}
use Rattle.bdl_parser.specs.declared.trees.TypeForm.{TypeForm}
use Rattle.bdl_parser.specs.Views.{tree_at, tree_of}
use Rattle.bdl_check.proofs.recursion.+add_links.Goals as goal

pub returns-in_ok-add_links-in-Map : goal.returns-in_ok-add_links-in-Map
returns-in_ok-add_links-in-Map t c =
    on_ok_weaker c.add_links-in-Map.result
    (both_added (number_named c.args.declarations.now) c.args.row.now.items c.add_links.new.row.items c.add_links-in-Map.new.row.items
    (names_in (tree_of c.deref.result.now)) (names_in (tree_of c.deref-in-Map.result.now)) (names_in (tree_of c.args.node.now))
    (ap (λ (form : TypeForm). names_in (tree_at c.args.node.now.at form)) c.in-Map.is
    ∙ (λ i. names_in (tree_of (sym c.deref.ensures i)) ++ names_in (tree_of (sym c.deref-in-Map.ensures i))))
    c.in_ok-add_links-in-Map.ensures)
    c.add_links-in-Map.ensures
