use Rattle.std.proofs.Common.{◌∷◌, map}
use Rattle.bag_value.specs.Vals.{plain}
use Rattle.write_proof.proofs.TogetherCalls.{adds_part, still_one}
use Rattle.write_proof.proofs.used.add_part.Goals as goal

pub loop-init : goal.loop-init
loop-init c = adds_part c.args.parts.now.items c.push.new.self.items c.args.part c.in_ok-push.ensures.items

pub join_last-requires : goal.join_last-requires
join_last-requires c = still_one (plain c.args.part ∷ map plain c.args.parts.now.items) (map plain c.loop.parts.items) c.requires c.loop.invariant

pub loop-preserved : goal.loop-preserved
loop-preserved c = λ shape joined j. c.in_ok-join_last.ensures shape joined (c.loop.invariant shape joined j)
