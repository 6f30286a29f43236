use Rattle.std.proofs.Common.{◌++◌, [], ◌∷◌, map, take, sym, ap, ◌∙◌, arith}
use Rattle.std.proofs.lemmas.List.{take_all}
use Rattle.bag_model.specs.Shapes.{fields}
use Rattle.bag_model.specs.Values.{values_list}
use Rattle.bag_scan.proofs.FieldGets.{field_at, field_smaller, opened}
use Rattle.field_table.specs.Plain.{nodes_of}
use Rattle.bag_decode.proofs.Fields.{bottom_at, bottoms_whole, map_push, take_next}
use Rattle.bag_decode.proofs.bottoms.+bottom.Goals as goal

pub bottoms_of-bottom_of-requires : goal.bottoms_of-bottom_of-requires
bottoms_of-bottom_of-requires t c =
    (omega (arith, c.decreases, field_smaller c.args.fields.now c.loop-at.at c.get.result c.unwrap-field.result c.get.ensures c.unwrap-field.ensures), tt)

pub bottoms_of-loop-at-preserved : goal.bottoms_of-loop-at-preserved
bottoms_of-loop-at-preserved t c =
    let fs = fields (nodes_of c.args.fields.now) in
    let at = c.loop-at.at in
    let x = c.unwrap-field.result in
    let here = field_at c.args.fields.now at c.get.result x c.get.ensures c.unwrap-field.ensures in
    c.in_ok-push.ensures.ok
    ∙ ap (λ v. values_list c.loop-at.values ++ v ∷ []) c.in_ok-bottom_of.ensures
    ∙ ap (λ l. l ++ bottom_at (opened x.now) ∷ []) c.loop-at.invariant
    ∙ sym (map_push bottom_at (take at fs) (opened x.now)) ∙ sym (ap (map bottom_at) (take_next fs at (opened x.now) here))

pub bottoms_of-returns : goal.bottoms_of-returns
bottoms_of-returns t c =
    let fs = fields (nodes_of c.args.fields.now) in
    bottoms_whole (nodes_of c.args.fields.now) c.loop-at.values
    (c.loop-at.invariant ∙ ap (map bottom_at) (take_all c.loop-at.at fs (omega (arith, c.loop-at-test.false, c.len-at-end.ensures))))
