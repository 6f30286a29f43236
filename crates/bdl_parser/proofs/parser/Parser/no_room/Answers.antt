use Rattle.std.proofs.Common.{sym}
use Rattle.bdl_parser.proofs.TypeLaws.{nothing_stops, nesting_goes}
use Rattle.bdl_parser.proofs.parser.Parser.no_room.Goals as goal

pub returns-then-is_at_type : goal.returns-then-is_at_type
returns-then-is_at_type c = nesting_goes c.args.self.now (sym c.if-is_at_type.ensures)

pub returns-else-is_at_type : goal.returns-else-is_at_type
returns-else-is_at_type c = nothing_stops c.args.self.now (sym c.if-is_at_type.ensures)
