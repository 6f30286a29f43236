use Rattle.std.proofs.Common.{◌≡◌, ◌++◌, codes, map}
use Rattle.std.specs.Prelude.{sum_by}
use Rattle.std.specs.Fmt.{decimal}
use Rattle.text_model.specs.ValueTexts.{count_text}
use Rattle.report_text.proofs.Joined.{first_joined}
use Rattle.report_text.proofs.value_texts.put_counts.Given as goal

abbrev pub invariant-loop-at : goal.invariant-loop-at
invariant-loop-at l = l.into.items ≡ ((l.fn.into.items ++ decimal (sum_by (λ entry. entry.1) l.counts)) ++ codes "{") ++ first_joined l.at (map count_text l.counts)
