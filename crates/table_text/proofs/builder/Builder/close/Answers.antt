use Rattle.std.proofs.Common.{[], ◌∷◌, ◌++◌, refl, sym, ap, subst, ◌∙◌, length, length-append, arith}
use Rattle.std.specs.Option.{option_to_list}
use Rattle.bag_model.specs.Shapes.{Shape, fields}
use Rattle.field_table.specs.Plain.{shape_of, nodes_of, IsIndexed}
use Rattle.table_text.specs.declared.builder.Builder.{Builder}
use Rattle.table_text.specs.declared.builder.OpenBag.{OpenBag}
use Rattle.table_text.specs.declared.builder.OpenField.{OpenField}
use Rattle.table_text.specs.TableRows.{filled}
use Rattle.table_text.proofs.Growing.{IsClosed, closing}
use Rattle.table_text.proofs.builder.Builder.close.Goals as goal

pub returns : goal.returns
returns c =
    let next : Builder = record { outer = c.pop.new.self; bag = c.push.new.self; rows = c.args.self.now.rows } in
    let field : OpenField = c.unwrap-bag.result in
    let value = c.replace-inner.ensures.value in
    let after = c.replace-inner.ensures.after in
    let shape = c.fill.ensures.filled ∙ ap (λ (b : OpenBag). filled (nodes_of b.fields) (shape_of field.row.shape)) value in
    let more =
    c.in_ok-push.ensures.fields
    ∙ ap (λ (b : OpenBag). fields (nodes_of b.fields) ++ (record { name = field.row.name.now; number = field.row.number; shape = shape_of c.fill.new.shape }) ∷ []) after
    ∙ ap (λ (s : Shape). fields (nodes_of field.bag.fields) ++ (record { name = field.row.name.now; number = field.row.number; shape = s }) ∷ []) shape
    in
    let outer = c.pop.ensures.items ∙ ap (λ o. c.pop.new.self.items ++ option_to_list o) c.unwrap-bag.ensures in
    let is : IsClosed c.args.self.now next =
    closing c.args.self.now next field c.requires.sound outer refl more
    (λ bag shape inner. c.in_ok-push.ensures.indexed (subst (λ (b : OpenBag). IsIndexed b.fields) (sym after) bag) (c.fill.ensures.indexed (subst (λ (b : OpenBag). IsIndexed b.fields) (sym value) inner) shape))
    (c.in_ok-push.ensures.names ∙ ap (λ (b : OpenBag). b.names) after) (c.in_ok-push.ensures.least ∙ ap (λ (b : OpenBag). b.least) after) (c.in_ok-push.ensures.level ∙ ap (λ (b : OpenBag). b.level) after)
    in
    record { rows = is.rows; sound = is.sound; depth = omega (arith, ap length outer, length-append c.pop.new.self.items (field ∷ [])) }
