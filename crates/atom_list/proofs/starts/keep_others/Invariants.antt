use Rattle.std.proofs.Common.{◌≡◌, ℕ, ◌≤◌, List, take, get_or}
use Rattle.atom_list.specs.Starts.{atoms_at, AreStarts}
use Rattle.atom_list.proofs.TakingOut.{Done}
use Rattle.atom_list.proofs.starts.keep_others.Given as goal

abbrev pub invariant-loop-at : goal.invariant-loop-at
invariant-loop-at l = record {
  done : (bytes : List ℕ) → Done l.gone (atoms_at bytes l.initial.starts.items) (atoms_at bytes l.starts.items) l.at l.kept l.taken;
  fit : (bytes : List ℕ) → AreStarts bytes l.initial.starts.items → AreStarts bytes l.starts.items;
  first : get_or l.gone 0 0 ≤ l.kept;
  front : take (get_or l.gone 0 0) l.starts.items ≡ take (get_or l.gone 0 0) l.initial.starts.items;
}
