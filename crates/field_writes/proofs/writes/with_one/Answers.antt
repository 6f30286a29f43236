use Rattle.std.proofs.Common.{◌+◌, ◌++◌, ap, ◌∙◌}
use Rattle.bag_model.specs.Shapes.{fields}
use Rattle.bag_model.specs.Values.{values_list}
use Rattle.bag_value.specs.Vals.{plain}
use Rattle.field_table.specs.Plain.{nodes_of}
use Rattle.field_writes.proofs.Bags.{bottoms_between, one_whole}
use Rattle.field_writes.proofs.writes.with_one.Goals as goal

pub returns : goal.returns
returns c =
    let nodes = nodes_of c.args.fields.now in
    let fs = fields nodes in
    let place = c.args.place in
    let first = c.push_bottoms.new.values in
    let second = c.push.new.self in
    one_whole nodes place (plain c.args.value) (values_list first) (values_list second) c.push_bottoms-2.new.values c.requires
    (c.in_ok-push_bottoms.ensures ∙ ap (λ vs. values_list vs ++ bottoms_between fs 0 place) c.new-values.ensures)
    c.in_ok-push.ensures.ok
    (c.in_ok-push_bottoms-2.ensures ∙ ap (λ n. values_list second ++ bottoms_between fs (place + 1) n) c.len-count.ensures)
