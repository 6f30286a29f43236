use Rattle.std.proofs.Common.{◌∷◌, map}
use Rattle.bag_value.specs.Vals.{plain}
use Rattle.write_proof.specs.Together.{HaveOneJoin}
use Rattle.write_proof.proofs.used.add_part.Given as goal

abbrev pub invariant-loop : goal.invariant-loop
invariant-loop l = HaveOneJoin (plain l.fn.part ∷ map plain l.fn.parts.items) (map plain l.parts.items)
