use Rattle.context_model.proofs.MergedMarkers.{ends_with_each}
use Rattle.lex_merge.proofs.laws.ends_with_each.Goals as goal

pub returns : goal.returns
returns c = ends_with_each
