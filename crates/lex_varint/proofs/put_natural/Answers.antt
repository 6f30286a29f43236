use Rattle.std.proofs.Common.{◌+◌, ◌/◌, ◌^◌, ◌<◌, get_or, sym, ap, subst, ◌∙◌, ◌∷◌, arith}
use Rattle.context_model.specs.Varints.{big_endian}
use Rattle.lex_varint.proofs.Puts.{table, natural_few, natural_fits, natural_is}
use Rattle.lex_varint.proofs.put_natural.Goals as goal

pub overflow_add-follows : goal.overflow_add-follows
overflow_add-follows c = omega (arith, natural_few c.natural_tail-follows.result c.args.value c.ranges.value.fits c.natural_tail-follows.ensures)

pub code_of-requires-clause-few : goal.code_of-requires-clause-few
code_of-requires-clause-few c = natural_few c.natural_tail-follows.result c.args.value c.ranges.value.fits c.natural_tail-follows.ensures

pub code_of-requires-clause-room : goal.code_of-requires-clause-room
code_of-requires-clause-room c =
    subst (λ v. get_or table v 0 + c.args.value / 256 ^ c.natural_tail-follows.result < 256) (sym c.min.ensures)
    (natural_fits c.natural_tail-follows.result c.args.value c.ranges.value.fits c.natural_tail-follows.ensures)

pub returns : goal.returns
returns c =
    c.code_of.ensures
    ∙ ap (λ v. (get_or table v 0 + c.args.value / 256 ^ c.natural_tail-follows.result) ∷ big_endian c.natural_tail-follows.result c.args.value) c.min.ensures
    ∙ natural_is c.natural_tail-follows.result c.args.value c.ranges.value.fits c.natural_tail-follows.ensures
