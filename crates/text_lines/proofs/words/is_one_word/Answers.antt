use Rattle.std.proofs.Common.{◌<◌, length, arith}
use Rattle.std.proofs.lemmas.Bool.Decides.{nat_tests}
use Rattle.text_lines.proofs.Spaces.{one_word_test}
use Rattle.text_lines.proofs.words.is_one_word.Goals as goal

pub returns-then-not-is_empty : goal.returns-then-not-is_empty
returns-then-not-is_empty c =
    let text = c.args.text.now in
    let some : 0 < length text = grind (arith, nat_tests, c.is_empty.ensures, c.if-not-is_empty.true) in
    one_word_test text c.space_at.result c.is_none.result some c.is_none.ensures c.space_at.ensures
