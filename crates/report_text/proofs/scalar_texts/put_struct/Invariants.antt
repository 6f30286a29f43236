use Rattle.std.proofs.Common.{◌≡◌, ◌++◌, codes, map}
use Rattle.text_model.specs.ScalarTexts.{plain_text}
use Rattle.report_text.proofs.Joined.{first_joined}
use Rattle.report_text.proofs.scalar_texts.put_struct.Given as goal

abbrev pub invariant-loop-at : goal.invariant-loop-at
invariant-loop-at l = l.into.items ≡ (l.fn.into.items ++ codes "(") ++ first_joined l.at (map plain_text l.fields)
