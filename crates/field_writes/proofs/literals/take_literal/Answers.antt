use Rattle.std.proofs.Common.{◌≡◌, true, false, sym, ◌∙◌}
use Rattle.scalar_types.specs.KindViews.{kind_of}
use Rattle.scalar_types.specs.Scalars.{value_of}
use Rattle.field_writes.proofs.Taking.{literal_begins, no_scalar_literal, no_long_literal}
use Rattle.field_writes.proofs.literals.take_literal.Goals as goal

pub returns-in_default : goal.returns-in_default
returns-in_default c = no_scalar_literal c.args.form (kind_of c.args.kind.now) c.args.text.now (rw c.in_default.is at c.in_ok-scalar.ensures)

pub returns-then-short : goal.returns-then-short
returns-then-short c =
    literal_begins c.args.form (kind_of c.args.kind.now) (value_of c.in-Some.scalar) c.args.text.now c.in-Some.rest.now (rw c.in-Some.is at c.in_ok-scalar.ensures)
    (c.in_ok-short.ensures.0 c.if-short.true)

pub returns : goal.returns
returns c =
    no_long_literal c.args.form (kind_of c.args.kind.now) c.args.text.now (value_of c.in-Some.scalar) c.in-Some.rest.now (rw c.in-Some.is at c.in_ok-scalar.ensures)
    (λ few. (let bad : true ≡ false = sym (c.in_ok-short.ensures.1 few) ∙ c.if-short.false in cc bad))
