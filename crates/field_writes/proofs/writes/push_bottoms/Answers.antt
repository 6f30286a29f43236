use Rattle.std.proofs.Common.{◌++◌, [], ◌∷◌, sym, ap, ◌∙◌, append_assoc}
use Rattle.bag_model.specs.Shapes.{Field, fields}
use Rattle.bag_model.specs.Values.{values_list}
use Rattle.field_table.specs.Plain.{shape_of, nodes_of}
use Rattle.field_writes.proofs.Bags.{bottom_at, bottoms_between, bottoms_more, field_there}
use Rattle.field_writes.proofs.writes.push_bottoms.Goals as goal

pub loop-at-preserved : goal.loop-at-preserved
loop-at-preserved c =
    let fs = fields (nodes_of c.args.fields.now) in
    let x = c.unwrap.result in
    let field : Field = record { name = x.now.name; number = x.now.number; shape = shape_of x.now.shape } in
    let here = field_there c.args.fields.now c.loop-at.at c.get.result x c.get.ensures c.unwrap.ensures in
    let own = values_list c.args.values.now in
    c.in_ok-push.ensures.ok
    ∙ ap (λ v. values_list c.loop-at.values ++ v ∷ []) c.in_ok-bottom_of.ensures
    ∙ ap (λ l. l ++ bottom_at field ∷ []) c.loop-at.invariant
    ∙ append_assoc own (bottoms_between fs c.args.from c.loop-at.at) (bottom_at field ∷ [])
    ∙ ap (λ l. own ++ l) (sym (bottoms_more fs c.args.from c.loop-at.at field here c.loop-at.auto.at))
