use Rattle.bdl_lexer.proofs.OneCut.{one_list}
use Rattle.bdl_lexer.proofs.laws.tokens_are_unique.Goals as goal

pub returns : goal.returns
returns c = one_list
