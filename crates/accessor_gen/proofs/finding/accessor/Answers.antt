use Rattle.std.proofs.Common.{sym, ◌∙◌}
use Rattle.bag_model.proofs.NamePathLaws.{name_paths_differ}
use Rattle.accessor_gen.proofs.finding.accessor.Goals as goal

pub returns : goal.returns
returns c =
    let found = c.in-Some.ensures in
    let named = c.in_ok-name.ensures.made in (
      (found.0, found.1, named ∙ sym found.2),
      named,
      λ other at there own. name_paths_differ c.args.table.now other c.in-Some.slot at found.0 c.nodes.ensures.table there found.1 (own ∙ sym found.2),
    )
