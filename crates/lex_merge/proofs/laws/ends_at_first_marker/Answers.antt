use Rattle.context_model.proofs.FirstMarkers.{ends_at_first_marker}
use Rattle.lex_merge.proofs.laws.ends_at_first_marker.Goals as goal

pub returns : goal.returns
returns c = ends_at_first_marker
