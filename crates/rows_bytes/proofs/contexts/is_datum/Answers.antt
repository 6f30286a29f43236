use Rattle.std.proofs.Common.{◌∷◌, Some, slice_get, sym, ◌∙◌, ap, eqb-true}
use Rattle.rows_bytes.proofs.contexts.is_datum.Goals as goal

pub returns-in-Some-split_first : goal.returns-in-Some-split_first
returns-in-Some-split_first c = λ t. (
  c.in-Some-split_first._rest.now,
  ap (λ v. slice_get v c.args.at) (sym c.list.ensures.list) ∙ sym c.in-Some.ensures.value
      ∙ ap Some (c.in-Some-split_first.ensures.cases.0 ∙ ap (λ v. v ∷ c.in-Some-split_first._rest.now) (eqb-true c.in-Some-split_first.first.now 0 t)),
)
