use Rattle.step_calls.proofs.LineLaws.{is_definite}
use Rattle.step_calls.proofs.laws.lines_are_definite.Goals as goal

pub returns : goal.returns
returns c = λ form nodes table. is_definite form nodes table
