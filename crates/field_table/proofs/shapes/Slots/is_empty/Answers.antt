use Rattle.std.proofs.Common.{sym, ◌∙◌, arith}
use Rattle.std.proofs.lemmas.Bool.{eqb-true, eq-eqb}
use Rattle.field_table.specs.declared.shapes.Shape.TheViews.{out-Slots}
use Rattle.std.specs.Vec.{vec_len}
use Rattle.field_table.proofs.Opened.{length_fields}
use Rattle.field_table.proofs.shapes.Slots.is_empty.Goals as goal

pub returns : goal.returns
returns c =
    let s = c.args.self.now in
    let n = vec_len (out-Slots s).items in (
      λ yes. (let none = eqb-true n 0 (sym c.is_empty.ensures ∙ yes) in omega (arith, none, length_fields s, (out-Slots s).items.ok.0)),
      λ none. c.is_empty.ensures ∙ eq-eqb n 0 (omega (arith, none, length_fields s, (out-Slots s).items.ok.0)),
    )
