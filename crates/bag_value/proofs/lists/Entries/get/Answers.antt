use Rattle.std.proofs.Common.{sym, arith}
use Rattle.std.proofs.lemmas.Option.{slice_get_past}
use Rattle.bag_model.specs.Values.{pairs}
use Rattle.bag_value.specs.Vals.{plain_entries}
use Rattle.bag_value.proofs.ListLaws.{length_entries}
use Rattle.bag_value.proofs.lists.Entries.get.Goals as goal

pub returns-else-at-len : goal.returns-else-at-len
returns-else-at-len c =
    let items = c.self.inside.items in
    rw (← c.self.view_is) (sym (slice_get_past (pairs (plain_entries items.items)) c.args.at (omega (arith, length_entries items.items, items.ok.0, c.if-at-len.false, c.len.ensures))))
