use Rattle.std.proofs.Common.{◌≡◌, true, false, sym, ◌∙◌, subst, ℤ}
use Rattle.std.specs.Int.{w64}
use Rattle.std.proofs.lemmas.Int.{to_z-of_z}
use Rattle.bag_model.specs.Scalars.{Signed, IsPlainOf}
use Rattle.field_writes.proofs.WordTexts.{no_signed}
use Rattle.field_writes.proofs.literals.signed_of.Goals as goal

pub returns-else-fits-clause-value : goal.returns-else-fits-clause-value
returns-else-fits-clause-value c =
    let number = c.in_ok-read_signed.field-0 in
    let is = c.in_ok-read_signed.ensures in
    no_signed c.args.word c.args.text.now number c.requires is.0 is.1
    (λ p. (let bad : true ≡ false = sym (c.fits.ensures.1 (subst (λ (z : ℤ). IsPlainOf c.args.word (Signed z)) (sym (to_z-of_z w64 number is.1)) p)) ∙ c.if-fits.false in cc bad))
