use Rattle.std.proofs.Common.{sym, subst}
use Rattle.context_model.specs.WellFormed.{IsWellFormed}
use Rattle.context_model.proofs.Following.{IsWellFormed-take}
use Rattle.atom_list.proofs.contexts.Context.front.Goals as goal

pub invariant_of-result : goal.invariant_of-result
invariant_of-result c = subst IsWellFormed (sym c.in_ok-list.ensures) (IsWellFormed-take c.args.keep c.self.inside.list c.self.invariant)
