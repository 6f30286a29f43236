use Rattle.std.proofs.Common.{◌≡◌, ◌==◌, ℕ, List, length, true, false, sym, ap, ◌∙◌}
use Rattle.scalar_types.specs.KindViews.{kind_of}
use Rattle.scalar_types.specs.Scalars.{value_of}
use Rattle.field_writes.proofs.Whole.{no_literal, no_more_literal}
use Rattle.field_writes.proofs.literals.read_literal.Goals as goal

pub returns-in_default : goal.returns-in_default
returns-in_default c = no_literal c.args.form (kind_of c.args.kind.now) c.args.text.now (rw c.in_default.is at c.in_ok-scalar.ensures)

pub returns-else-is_empty : goal.returns-else-is_empty
returns-else-is_empty c =
    no_more_literal c.args.form (kind_of c.args.kind.now) c.args.text.now (value_of c.in-Some.scalar) c.in-Some.rest.now (rw c.in-Some.is at c.in_ok-scalar.ensures)
    (λ e. (let bad : true ≡ false = sym (c.is_empty.ensures ∙ ap (λ (l : List ℕ). length l == 0) e) ∙ c.if-is_empty.false in cc bad))
