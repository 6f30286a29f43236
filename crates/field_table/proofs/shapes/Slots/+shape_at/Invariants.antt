use Rattle.bag_model.specs.Tables.{node_count}
use Rattle.field_table.specs.Plain.{nodes_of}
use Rattle.field_table.proofs.shapes.Slots.+shape_at.Given as goal

abbrev pub decreases-shape_at : goal.decreases-shape_at
decreases-shape_at l = node_count (nodes_of l.self.now)
