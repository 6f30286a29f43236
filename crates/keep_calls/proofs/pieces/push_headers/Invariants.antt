use Rattle.std.proofs.Common.{◌≡◌, ◌++◌, drop}
use Rattle.context_model.specs.Ended.{field_path, field_path_from}
use Rattle.keep_calls.proofs.pieces.push_headers.Given as goal

abbrev pub invariant-loop-level : goal.invariant-loop-level
invariant-loop-level l = l.built.atoms ++ field_path_from l.level (drop l.level l.numbers) ≡ l.initial.built.atoms ++ field_path l.numbers
