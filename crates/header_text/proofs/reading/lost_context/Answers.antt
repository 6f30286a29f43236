use Rattle.header_text.proofs.Lost.{read_lost}
use Rattle.header_text.proofs.reading.lost_context.Goals as goal

pub returns-in-Ok : goal.returns-in-Ok
returns-in-Ok c = read_lost c.in-Ok.context c.in-Ok.ensures.found
