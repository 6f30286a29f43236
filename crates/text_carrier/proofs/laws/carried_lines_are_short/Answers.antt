use Rattle.std.proofs.Common.{◌≤◌, length, sym, subst}
use Rattle.text_carrier.proofs.Placed.{line_place, short_line}
use Rattle.text_carrier.proofs.laws.carried_lines_are_short.Goals as goal

pub returns : goal.returns
returns c = λ width bytes line carried i.
    let (place, less, is) = line_place width bytes line i in
    subst (λ l. length l ≤ 416) (sym is) (short_line width bytes carried place less)
