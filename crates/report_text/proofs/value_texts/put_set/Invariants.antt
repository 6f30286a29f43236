use Rattle.std.proofs.Common.{◌≡◌, ◌++◌, codes, map}
use Rattle.scalar_types.specs.Scalars.{value_of}
use Rattle.text_model.specs.ScalarTexts.{scalar_text}
use Rattle.report_text.proofs.Joined.{first_joined}
use Rattle.report_text.proofs.value_texts.put_set.Given as goal

abbrev pub invariant-loop-at : goal.invariant-loop-at
invariant-loop-at l = l.into.items ≡ (l.fn.into.items ++ codes "{") ++ first_joined l.at (map scalar_text (map value_of l.set.items))
