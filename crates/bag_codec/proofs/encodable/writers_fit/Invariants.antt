use Rattle.std.proofs.Common.{◌↔◌, drop}
use Rattle.context_model.specs.KeyedMerge.{EachPair}
use Rattle.bag_codec.specs.Encodable.{HasRoom}
use Rattle.bag_codec.proofs.encodable.writers_fit.Given as goal

abbrev pub invariant-loop-at : goal.invariant-loop-at
invariant-loop-at l = EachPair (λ writer n. HasRoom writer) l.counts ↔ EachPair (λ writer n. HasRoom writer) (drop l.at l.counts)
