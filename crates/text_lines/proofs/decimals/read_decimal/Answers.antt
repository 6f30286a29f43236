use Rattle.std.proofs.Common.{◌≡◌, arith}
use Rattle.std.proofs.lemmas.Grind.{common_steps}
use Rattle.text_lines.proofs.DecimalTexts.{says_none, utf8, parsed}
use Rattle.text_lines.proofs.decimals.read_decimal.Goals as goal

pub returns-then-has_plus_or_leading_zero : goal.returns-then-has_plus_or_leading_zero
returns-then-has_plus_or_leading_zero c =
    says_none c.args.text.now (c.has_plus_or_leading_zero.ensures.0 c.if-has_plus_or_leading_zero.true)

pub returns-in_err-ok : goal.returns-in_err-ok
returns-in_err-ok c =
    rw c.from_residual.ensures (λ number says. (let valid = utf8 c.args.text.now number says in grind (arith, common_steps, c.in_err-ok.was)))

pub returns : goal.returns
returns c =
    let text = c.args.text.now in
    let same : c.in_ok-ok.field-0.now ≡ text = grind (arith, common_steps, c.in_ok-ok.was) in
    rw c.ok-2.ensures.value (parsed text c.parse.result (rw same at c.parse.ensures.value.0) (λ bad. grind (arith, c.has_plus_or_leading_zero.ensures.1 bad)))
