use Rattle.std.proofs.Common.{◌≡◌, ◌++◌, drop}
use Rattle.context_model.specs.Ended.{field_path, field_path_from}
use Rattle.bag_encode.proofs.slots.put_headers.Given as goal

abbrev pub invariant-loop-level : goal.invariant-loop-level
invariant-loop-level l = l.list ++ field_path_from l.level (drop l.level l.numbers) ≡ l.initial.list ++ field_path l.numbers
