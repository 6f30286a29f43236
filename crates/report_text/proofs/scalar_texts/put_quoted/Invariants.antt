use Rattle.std.proofs.Common.{◌≡◌, ◌++◌, codes, take}
use Rattle.std.specs.List.{flat_map}
use Rattle.text_model.specs.ScalarTexts.{escaped}
use Rattle.report_text.proofs.scalar_texts.put_quoted.Given as goal

abbrev pub invariant-loop-byte : goal.invariant-loop-byte
invariant-loop-byte l = l.into.items ≡ (l.fn.into.items ++ codes "\"") ++ flat_map escaped (take l.byte-index l.bytes)
