use Rattle.bag_model.specs.Tables.{node_count}
use Rattle.field_table.specs.Plain.{nodes_of}
use Rattle.field_table.proofs.shapes.Slots.+put_name.Given as goal

abbrev pub decreases-put_name : goal.decreases-put_name
decreases-put_name l = node_count (nodes_of l.self.now)
