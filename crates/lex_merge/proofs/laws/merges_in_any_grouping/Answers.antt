use Rattle.context_model.specs.Orders.{atom_cmp}
use Rattle.context_model.proofs.OrderLaws.{atoms_total}
use Rattle.context_model.proofs.GreedyLaws.{greedy-assoc}
use Rattle.lex_merge.proofs.laws.merges_in_any_grouping.Goals as goal

pub returns : goal.returns
returns c = λ a b d. greedy-assoc atom_cmp atoms_total a b d
