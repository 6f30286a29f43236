use Rattle.bdl_lexer.proofs.OneCut.{tokens_or_fault}
use Rattle.bdl_lexer.proofs.laws.tokens_exclude_faults.Goals as goal

pub returns : goal.returns
returns c = tokens_or_fault
