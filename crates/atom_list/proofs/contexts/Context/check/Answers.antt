use Rattle.std.proofs.Common.{ℕ, ◌+◌, ◌<◌, [], List, length, take, sym, subst, arith}
use Rattle.std.proofs.lemmas.List.{take_more}
use Rattle.std.proofs.lemmas.Option.{slice_get-get_or}
use Rattle.context_model.specs.Atoms.{Atom}
use Rattle.context_model.specs.WellFormed.{IsWellFormed}
use Rattle.context_model.proofs.Following.{Fits, IsWellFormed-empty, IsWellFormed-more}
use Rattle.atom_list.specs.OpenPlaces.{MayStandBehind, atom_at, path_before}
use Rattle.atom_list.proofs.contexts.Context.check.Goals as goal

more_well_formed : (list : List Atom) (at : ℕ) → at < length list → IsWellFormed (take at list) → MayStandBehind (path_before list at) (atom_at list at) → IsWellFormed (take (at + 1) list)
more_well_formed list at within before may =
    let fits : Fits (path_before list at) (atom_at list at) = record { level = may.level; later = may.later } in
    subst IsWellFormed (sym (take_more list at [] within)) (IsWellFormed-more (take at list) (atom_at list at) before may.kind fits)

pub loop-at-init : goal.loop-at-init
loop-at-init c = record {
  before = IsWellFormed-empty;
  headers = c.new-open.ensures c.args.list;
}

pub returns-in-Err-clause-fault : goal.returns-in-Err-clause-fault
returns-in-Err-clause-fault c = record {
  atom = atom_at c.args.list c.loop-at.at;
  there = slice_get-get_or c.args.list c.loop-at.at [] (omega arith);
  before = c.loop-at.invariant.before;
  wrong = c.in-Err.ensures.err;
}

pub loop-at-preserved : goal.loop-at-preserved
loop-at-preserved c =
    let list = c.args.list in
    let at = c.loop-at.at in
    record {
      before = more_well_formed list at (omega arith) c.loop-at.invariant.before c.in_default.ensures.ok;
      headers = c.in_default.ensures.«open»;
    }
