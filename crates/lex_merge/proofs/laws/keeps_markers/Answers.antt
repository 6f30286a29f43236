use Rattle.context_model.proofs.MergedMarkers.{keeps_markers}
use Rattle.lex_merge.proofs.laws.keeps_markers.Goals as goal

pub returns : goal.returns
returns c = keeps_markers
