use Rattle.std.proofs.Common.{[]}
use Rattle.std.proofs.lemmas.List.{get_or_read}
use Rattle.step_rules.proofs.parents.at.Goals as goal

pub returns : goal.returns
returns c = get_or_read c.args.pool.now c.args.place c.index-pool-place.result c.requires c.index-pool-place.is []
