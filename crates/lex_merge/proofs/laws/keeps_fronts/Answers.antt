use Rattle.context_model.proofs.FirstMarkers.{keeps_fronts}
use Rattle.lex_merge.proofs.laws.keeps_fronts.Goals as goal

pub returns : goal.returns
returns c = keeps_fronts
