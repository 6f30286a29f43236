use Rattle.context_model.proofs.MergedMarkers.{keeps_markers_behind}
use Rattle.lex_merge.proofs.laws.keeps_markers_behind.Goals as goal

pub returns : goal.returns
returns c = keeps_markers_behind
