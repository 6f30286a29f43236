use Rattle.context_model.proofs.MergedLaws.{keeps_atoms}
use Rattle.lex_merge.proofs.laws.keeps_atoms.Goals as goal

pub returns : goal.returns
returns c = keeps_atoms
