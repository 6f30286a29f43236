use Rattle.std.proofs.Common.{◌^◌, subst}
use Rattle.text_lines.specs.Answers.{IsSomeOf}
use Rattle.text_lines.specs.Words.{IsNumberBelow}
use Rattle.graph_lines.proofs.numbers.read_number.Goals as goal

pub returns : goal.returns
returns c = subst (λ text. IsSomeOf (IsNumberBelow (10 ^ 10) text) c.read_number.result) c.as_bytes.ensures.value c.read_number.ensures
