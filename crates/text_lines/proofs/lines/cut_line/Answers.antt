use Rattle.std.proofs.Common.{◌≡◌, refl, ℕ, ◌<◌, Bool, false, ◌==◌, arith, ◌∙◌, ap, sym, ◌∷◌, length, take, drop, ◌-◌, ◌+◌}
use Rattle.std.specs.Str.Lines.{lines}
use Rattle.std.proofs.lemmas.Bool.Decides.{nat_tests}
use Rattle.text_lines.proofs.LineLaws.{first_line, only_line}
use Rattle.text_lines.proofs.lines.cut_line.Goals as goal

pub returns-in-Some-clause-lines : goal.returns-in-Some-clause-lines
returns-in-Some-clause-lines c =
    let bytes = c.args.bytes.now in
    let at = c.in-Some.at in
    first_line bytes at c.in-Some.ensures.within c.in-Some.ensures.first c.in-Some.ensures.there
    ∙ ap (λ text. text ∷ lines (take (length bytes - (at + 1)) (drop (at + 1) bytes))) (sym c.without_return.ensures)

some_left : (n : ℕ) (none : Bool) → none ≡ (n == 0) → none ≡ false → 0 < n
some_left n none is not = grind (arith, nat_tests)

pub returns-in-None-2-clause-lines : goal.returns-in-None-2-clause-lines
returns-in-None-2-clause-lines c =
    only_line c.args.bytes.now (some_left (length c.args.bytes.now) _ c.is_empty.ensures c.if-is_empty.false) (c.in-None-2.ensures.none refl)
