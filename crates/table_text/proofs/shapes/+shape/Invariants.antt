use Rattle.std.proofs.Common.{◌+◌, ◌*◌}
use Rattle.table_text.proofs.shapes.+shape.Given as goal

abbrev pub decreases-read_shape : goal.decreases-read_shape
decreases-read_shape l = 2 * l.maps + 1

abbrev pub decreases-read_map : goal.decreases-read_map
decreases-read_map l = 2 * l.maps
