use Rattle.std.proofs.Common.{length, ◌∙◌, ap}
use Rattle.bag_model.specs.Slots.{slots_of}
use Rattle.field_table.proofs.Found.{count_of}
use Rattle.field_table.proofs.tables.Table.slots.Goals as goal

pub returns : goal.returns
returns c = c.slot_count.ensures c.self.invariant.1 ∙ count_of c.self.inside.nodes c.self.invariant.0 ∙ ap (λ nodes. length (slots_of nodes)) c.self.view_is
