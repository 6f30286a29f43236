use Rattle.context_model.specs.Orders.{atom_cmp}
use Rattle.context_model.proofs.OrderLaws.{atoms_total}
use Rattle.context_model.proofs.GreedyLaws.{greedy-idem}
use Rattle.lex_merge.proofs.laws.merges_once.Goals as goal

pub returns : goal.returns
returns c = λ a. greedy-idem atom_cmp atoms_total a
