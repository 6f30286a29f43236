use Rattle.std.proofs.Common.{take}
use Rattle.context_model.specs.WellFormed.{IsWellFormed}
use Rattle.atom_list.specs.OpenPlaces.{IsOpenPath, path_before}
use Rattle.atom_list.proofs.contexts.Context.check.Given as goal

abbrev pub invariant-loop-at : goal.invariant-loop-at
invariant-loop-at l = record {
  before : IsWellFormed (take l.at l.list);
  headers : IsOpenPath l.list (path_before l.list l.at) l.«open».headers l.«open».datum;
}
