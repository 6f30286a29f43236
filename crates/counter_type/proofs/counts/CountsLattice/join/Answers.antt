use Rattle.counter_type.specs.Counts.{IsCounted-joined, counted_entries}
use Rattle.counter_type.proofs.counts.CountsLattice.join.Goals as goal

pub join_entries-requires-clause-theirs : goal.join_entries-requires-clause-theirs
join_entries-requires-clause-theirs c = rw c.deref.ensures.value (counted_entries c.other.inside.entries.items c.other.invariant)

pub invariant_of-self-2 : goal.invariant_of-self-2
invariant_of-self-2 c =
    rw (c.in_ok-join_entries.ensures.ok, c.deref.ensures.value) (IsCounted-joined c.self.inside.entries.items c.other.inside.entries.items c.self.invariant c.other.invariant)
