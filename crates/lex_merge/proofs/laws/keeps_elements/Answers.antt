use Rattle.context_model.proofs.MergedLaws.{keeps_elements}
use Rattle.lex_merge.proofs.laws.keeps_elements.Goals as goal

pub returns : goal.returns
returns c = keeps_elements
