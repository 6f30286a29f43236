use Rattle.bag_model.specs.Tables.{node_count}
use Rattle.field_table.specs.Plain.{nodes_of}
use Rattle.field_table.proofs.shapes.Slots.+find.Given as goal

abbrev pub decreases-find : goal.decreases-find
decreases-find l = node_count (nodes_of l.self.now)
