use Rattle.std.proofs.Common.{◌+◌}
use Rattle.bag_model.specs.Sizes.{shape_size, nodes_size}
use Rattle.field_table.specs.Plain.{shape_of, nodes_of}
use Rattle.field_writes.proofs.writes.+read.Given as goal

abbrev pub decreases-read_entry : goal.decreases-read_entry
decreases-read_entry l = shape_size (shape_of l.shape.now) + 1

abbrev pub decreases-read_field : goal.decreases-read_field
decreases-read_field l = nodes_size (nodes_of l.fields.now)

abbrev pub decreases-read_write : goal.decreases-read_write
decreases-read_write l = shape_size (shape_of l.shape.now)
