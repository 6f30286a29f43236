use Rattle.std.proofs.Common.{sym, arith}
use Rattle.std.proofs.lemmas.Option.{slice_get_past}
use Rattle.bag_model.specs.Values.{values_list}
use Rattle.bag_value.specs.Vals.{plain_values}
use Rattle.bag_value.proofs.ListLaws.{length_values}
use Rattle.bag_value.proofs.lists.Vals.get.Goals as goal

pub returns-else-at-len : goal.returns-else-at-len
returns-else-at-len c =
    let items = c.self.inside.items in
    rw (← c.self.view_is) (sym (slice_get_past (values_list (plain_values items.items)) c.args.at (omega (arith, length_values items.items, items.ok.0, c.if-at-len.false, c.len.ensures))))
