use Rattle.std.proofs.Common.{None, sym, ◌∙◌, arith}
use Rattle.std.proofs.lemmas.Fmt.{decimal_injective}
use Rattle.command_line.proofs.Numbers.{narrowed, number_read}
use Rattle.command_line.proofs.commands.read_number.Goals as goal

pub returns-in_err-number : goal.returns-in_err-number
returns-in_err-number c = rw c.from_residual.ensures (number_read c.args.word.now None (λ n is.
    let small = is.1 in
    c.in_err-number.ensures n (c.as_bytes.ensures.value ∙ is.0.0, omega (arith, small))))

pub returns-then-number-eq0 : goal.returns-then-number-eq0
returns-then-number-eq0 c = number_read c.args.word.now None (λ n is.
    let said = c.in_ok-number.ensures in
    let some = is.0.1 in
    let small = is.1 in
    let same = decimal_injective c.in_ok-number.number n said.1 (omega (arith, small)) (sym said.0 ∙ (c.as_bytes.ensures.value ∙ is.0.0)) in
    omega (arith, same, some, c.if-number-eq0.true))

pub returns : goal.returns
returns c =
    let said = c.in_ok-number.ensures in
    let some = c.if-number-eq0.false in
    c.ok.ensures.value ∙ narrowed c.args.word.now c.in_ok-number.number c.try_from.result (sym c.as_bytes.ensures.value ∙ said.0) said.1 (omega (arith, some)) c.try_from.ensures
