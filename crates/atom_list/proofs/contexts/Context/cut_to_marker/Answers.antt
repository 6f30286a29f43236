use Rattle.std.proofs.Common.{sym, subst}
use Rattle.context_model.specs.WellFormed.{IsWellFormed}
use Rattle.context_model.proofs.Following.{IsWellFormed-cut}
use Rattle.atom_list.proofs.contexts.Context.cut_to_marker.Goals as goal

pub invariant_of-self : goal.invariant_of-self
invariant_of-self c = subst IsWellFormed (sym c.cut_to_marker.ensures) (IsWellFormed-cut c.args.keep c.self.inside.list c.self.invariant)
