use Rattle.std.proofs.Common.{◌≡◌, map, take, string_bytes}
use Rattle.bag_model.specs.Slots.{dotted}
use Rattle.def_evolve.proofs.sides.Side.path.Given as goal

abbrev pub invariant-loop-at : goal.invariant-loop-at
invariant-loop-at l = string_bytes l.path ≡ dotted (map (λ name. name.now) (take l.at l.self.names.items))
