use Rattle.std.proofs.Common.{◌≡◌, true, false, sym, ◌∙◌}
use Rattle.field_writes.proofs.WordTexts.{no_unsigned_of}
use Rattle.field_writes.proofs.literals.unsigned_of.Goals as goal

pub returns-else-fits-clause-value : goal.returns-else-fits-clause-value
returns-else-fits-clause-value c =
    let number = c.in_ok-read_decimal.field-0 in
    let is = c.in_ok-read_decimal.ensures in
    no_unsigned_of c.args.word c.args.text.now number c.requires is.0 is.1
    (λ p. (let bad : true ≡ false = sym (c.fits.ensures.1 p) ∙ c.if-fits.false in cc bad))
