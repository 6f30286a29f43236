use Rattle.std.proofs.Common.{◌≡◌, ◌++◌, map, take}
use Rattle.std.specs.List.{flat_map}
use Rattle.write_proof.specs.Entries.{Reach, entry_line}
use Rattle.write_proof.specs.Reaching.{pairs_of}
use Rattle.write_proof.proofs.certificates.put_reaching.Given as goal

abbrev pub invariant-loop-reach : goal.invariant-loop-reach
invariant-loop-reach l = l.into.items ≡ l.initial.into.items ++ flat_map entry_line (map (λ pair. Reach pair.0 pair.1) (pairs_of (take l.reach-index l.reaching)))
