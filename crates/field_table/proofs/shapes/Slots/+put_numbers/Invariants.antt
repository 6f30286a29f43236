use Rattle.bag_model.specs.Tables.{node_count}
use Rattle.field_table.specs.Plain.{nodes_of}
use Rattle.field_table.proofs.shapes.Slots.+put_numbers.Given as goal

abbrev pub decreases-put_numbers : goal.decreases-put_numbers
decreases-put_numbers l = node_count (nodes_of l.self.now)
