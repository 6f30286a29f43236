use Rattle.context_model.proofs.FirstMarkers.{keeps_first_marker}
use Rattle.lex_merge.proofs.laws.keeps_first_marker.Goals as goal

pub returns : goal.returns
returns c = keeps_first_marker
