use Rattle.step_rules.proofs.Places.{place_within, first_list}
use Rattle.step_rules.proofs.parents.first.Goals as goal

pub at-requires : goal.at-requires
at-requires c = place_within c.args.pool.now c.args.places.now 0 c.requires.within c.requires.some

pub returns : goal.returns
returns c = first_list c.args.pool.now c.args.places.now c.at.result.now c.requires.some c.at.ensures
