use Rattle.std.proofs.Common.{◌≡◌, map, take, string_bytes}
use Rattle.bag_model.specs.Slots.{dotted}
use Rattle.def_evolve.specs.Breaks.{part_text}
use Rattle.def_evolve.proofs.all_breaks.Break.path.Given as goal

abbrev pub invariant-loop-at : goal.invariant-loop-at
invariant-loop-at l = string_bytes l.path ≡ dotted (map part_text (take l.at l.self.way.items))
