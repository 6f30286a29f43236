use Rattle.std.proofs.Common.{sym, ◌∙◌, arith}
use Rattle.std.proofs.lemmas.Fmt.{decimal_injective}
use Rattle.text_lines.proofs.decimals.read_number.Goals as goal

pub returns-then-below-number : goal.returns-then-below-number
returns-then-below-number c = λ number says.
    let said = c.in_ok-number.ensures in
    let few = says.0 in
    let great = c.if-below-number.true in
    let same = decimal_injective c.in_ok-number.number number said.1 (omega (arith, few, said.1, great)) (sym said.0 ∙ says.1) in
    omega (arith, same, few, great)
