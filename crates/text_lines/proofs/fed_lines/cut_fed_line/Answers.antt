use Rattle.std.proofs.Common.{◌≡◌, ℕ, ◌<◌, ◌+◌, ◌==◌, Bool, false, ◌∷◌, drop, length, sym, refl, ap, ◌∙◌, arith}
use Rattle.std.proofs.lemmas.Bool.Decides.{nat_tests}
use Rattle.text_lines.specs.FedLines.{fed_lines}
use Rattle.text_lines.proofs.Separated.{free_from, free_take}
use Rattle.text_lines.proofs.FedLines.{first_line, only_line}
use Rattle.text_lines.proofs.fed_lines.cut_fed_line.Goals as goal

pub returns-in-Some-clause-lines : goal.returns-in-Some-clause-lines
returns-in-Some-clause-lines c =
    let bytes = c.args.bytes.now in
    let at = c.in-Some.at in
    first_line bytes at c.in-Some.ensures.within (free_take 10 bytes at c.in-Some.ensures.within c.in-Some.ensures.first) c.in-Some.ensures.there
    ∙ ap (λ line. line ∷ fed_lines (drop (at + 1) bytes)) (sym c.split_at.ensures.front) ∙ ap (λ rest. c.split_at.result.0.now ∷ fed_lines rest) (sym c.split_at.ensures.back)

some_left : (n : ℕ) (none : Bool) → none ≡ (n == 0) → none ≡ false → 0 < n
some_left n none is not = grind (arith, nat_tests)

pub returns-in-None-2-clause-lines : goal.returns-in-None-2-clause-lines
returns-in-None-2-clause-lines c =
    only_line c.args.bytes.now (some_left (length c.args.bytes.now) _ c.is_empty.ensures c.if-is_empty.false) (free_from 10 c.args.bytes.now (c.in-None-2.ensures.none refl))
