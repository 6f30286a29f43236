use Rattle.std.proofs.Common.{arith}
use Rattle.std.proofs.lemmas.Str.{lead_after_ascii}
use Rattle.text_lines.proofs.words.cut_str.Goals as goal

pub range_from-requires : goal.range_from-requires
range_from-requires c =
    let found = rw c.as_bytes.ensures.value at c.in_ok-at.ensures in
    let within = found.0 in
    let space = found.1 in
    λ _. (omega (arith, within), λ less high. lead_after_ascii c.args.text.now c.in_ok-at.at c.utf8.text (omega (arith, space)) less high)
