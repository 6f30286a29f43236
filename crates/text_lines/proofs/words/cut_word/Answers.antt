use Rattle.text_lines.proofs.Separated.{around}
use Rattle.text_lines.proofs.words.cut_word.Goals as goal

pub returns : goal.returns
returns c =
    let found = c.in_ok-at.ensures in
    (found.2, around 32 c.args.text.now c.in_ok-at.at found.0 found.1)
