use Rattle.forwarding.proofs.Fitting.{forwards}
use Rattle.forwarding.proofs.forward.Goals as goal

pub returns : goal.returns
returns c = forwards c.args.first.now c.args.second.now c.args.buffer.now c.forward_bytes.new.room c.forward_bytes.result c.requires c.forward_bytes.ensures
