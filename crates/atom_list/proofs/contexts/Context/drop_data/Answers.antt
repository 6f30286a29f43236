use Rattle.std.proofs.Common.{sym, subst}
use Rattle.context_model.specs.WellFormed.{IsWellFormed}
use Rattle.context_model.specs.WithoutData.{AreDataPlaces}
use Rattle.context_model.proofs.EndedLaws.{data_may_go}
use Rattle.atom_list.proofs.TakingOut.{data_within}
use Rattle.atom_list.proofs.contexts.Context.drop_data.Goals as goal

pub take_out-requires-clause-within : goal.take_out-requires-clause-within
take_out-requires-clause-within c = data_within c.args.gone.now c.self.inside.list (subst (AreDataPlaces c.args.gone.now) (sym c.self.view_is) c.requires.«data»)

pub invariant_of-self : goal.invariant_of-self
invariant_of-self c =
    subst IsWellFormed (sym c.take_out.ensures)
    (data_may_go c.self.inside.list c.args.gone.now c.self.invariant (subst (AreDataPlaces c.args.gone.now) (sym c.self.view_is) c.requires.«data»)).well_formed
