use Rattle.std.proofs.Common.{sym, ◌∙◌, vec_len, arith}
use Rattle.std.proofs.lemmas.Bool.{eqb-true, eq-eqb}
use Rattle.bag_value.proofs.ListLaws.{no_values, values_none}
use Rattle.bag_value.proofs.lists.Vals.is_empty.Goals as goal

pub returns : goal.returns
returns c =
    let items = c.self.inside.items in (
      λ yes. (let none = eqb-true (vec_len items) 0 (sym c.is_empty.ensures ∙ yes) in sym c.self.view_is ∙ no_values items.items (omega (arith, items.ok.0, none))),
      λ none. (let over = values_none items.items (c.self.view_is ∙ none) in c.is_empty.ensures ∙ eq-eqb (vec_len items) 0 (omega (arith, items.ok.0, over))),
    )
