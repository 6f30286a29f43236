use Rattle.std.proofs.Common.{◌≡◌, true, false, sym, subst, ◌∙◌, arith}
use Rattle.std.specs.Str.Parse.{digits_value}
use Rattle.table_text.specs.Rows.{IsDepth}
use Rattle.table_text.proofs.Depths.{is_depth, from_digits, decimal_depth, great_depth}
use Rattle.table_text.proofs.words.read_depth.Goals as goal

pub returns-then-not-has_no_leading_zero-clause-err : goal.returns-then-not-has_no_leading_zero-clause-err
returns-then-not-has_no_leading_zero-clause-err c = λ depth deep.
    let bad : true ≡ false = sym (c.has_no_leading_zero.ensures.1 (deep.digits_are.0, deep.no_zero)) ∙ c.if-not-has_no_leading_zero.true in cc bad

pub returns-then-not-are_digits-clause-err : goal.returns-then-not-are_digits-clause-err
returns-then-not-are_digits-clause-err c = λ depth deep.
    let bad : true ≡ false = sym (from_digits c.args.text.now deep.digits_are.1) ∙ sym c.are_digits.ensures ∙ c.if-not-are_digits.true in cc bad

pub returns-in-Some-clause-ok : goal.returns-in-Some-clause-ok
returns-in-Some-clause-ok c =
    rw c.from.ensures (subst (λ text. IsDepth text c.in-Some.digit) (sym c.in-Some.ensures.1) (decimal_depth c.in-Some.digit (omega (arith, c.in-Some.ensures.0))))

pub returns-in-Some-read_decimal-clause-ok : goal.returns-in-Some-read_decimal-clause-ok
returns-in-Some-read_decimal-clause-ok c =
    let found = c.in-Some-read_decimal in subst (λ text. IsDepth text found.depth) (sym found.ensures.0) (decimal_depth found.depth found.ensures.1)

pub returns-in-None-clause-err : goal.returns-in-None-clause-err
returns-in-None-clause-err c =
    let text = c.args.text.now in
    let begins = c.has_no_leading_zero.ensures.0 c.if-not-has_no_leading_zero.false in
    let deep = is_depth text begins.0 begins.1 (sym c.are_digits.ensures ∙ c.if-not-are_digits.false) in
    (digits_value 10 text, deep, great_depth text (digits_value 10 text) deep c.in-None.ensures)
