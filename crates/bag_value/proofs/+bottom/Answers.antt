use Rattle.std.proofs.Common.{ap, map}
use Rattle.scalar_types.specs.Scalars.{value_of}
use Rattle.bag_value.proofs.Unions.{no_elements}
use Rattle.bag_value.proofs.+bottom.Goals as goal

pub vals::Val::says_nothing-returns-in-Set : goal.vals::Val::says_nothing-returns-in-Set
vals::Val::says_nothing-returns-in-Set t c =
    rw c.in-Set.is ((λ yes. ap (map value_of) (c.is_bottom.ensures.value.0 yes)), (λ none. c.is_bottom.ensures.value.1 (no_elements c.in-Set.set.items none)))
