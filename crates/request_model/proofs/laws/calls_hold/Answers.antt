use Rattle.request_model.proofs.CallLaws.{calls_hold}
use Rattle.request_model.proofs.laws.calls_hold.Goals as goal

pub returns : goal.returns
returns c = calls_hold c.writes_are_of_their_shape.ensures.shape
