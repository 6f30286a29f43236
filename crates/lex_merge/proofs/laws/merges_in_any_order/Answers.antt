use Rattle.context_model.specs.Orders.{atom_cmp}
use Rattle.context_model.proofs.OrderLaws.{atoms_total, atoms_anti}
use Rattle.context_model.proofs.GreedyLaws.{greedy-comm}
use Rattle.lex_merge.proofs.laws.merges_in_any_order.Goals as goal

pub returns : goal.returns
returns c = λ a b. greedy-comm atom_cmp atoms_total a b (λ x y in_a in_b tie. atoms_anti x y tie)
