use Rattle.std.proofs.Common.{◌+◌, ◌*◌}
use Rattle.bdl_parser.proofs.parser.Parser.+nested.Given as goal

abbrev pub decreases-map_type : goal.decreases-map_type
decreases-map_type l = 2 * l.room + 1

abbrev pub decreases-held_type : goal.decreases-held_type
decreases-held_type l = 2 * l.room + 1

abbrev pub decreases-type_node : goal.decreases-type_node
decreases-type_node l = 2 * l.room
