use Rattle.std.proofs.Common.{take}
use Rattle.context_model.specs.Ended.{field_path}
use Rattle.bag_walks.specs.Parts.{IsBehind}
use Rattle.place_calls.proofs.chosen.find_path.Given as goal

abbrev pub invariant-loop-level : goal.invariant-loop-level
invariant-loop-level l = IsBehind l.list (field_path (take l.level l.numbers)) l.place
