use Rattle.load_maker.proofs.Accepted.{load_is_accepted}
use Rattle.load_maker.proofs.laws.loads_are_accepted.Goals as goal

pub returns : goal.returns
returns c n some few = load_is_accepted n few
