use Rattle.std.proofs.Common.{◌≡◌, ◌++◌, codes, map, take}
use Rattle.std.specs.List.{join_with_byte}
use Rattle.bag_model.specs.Words.{word_text}
use Rattle.table_text.proofs.printing.put_struct.Given as goal

abbrev pub invariant-loop-at : goal.invariant-loop-at
invariant-loop-at l = l.into.items ≡ (l.fn.into.items ++ codes "(") ++ join_with_byte 44 (take l.at (map word_text l.words))
