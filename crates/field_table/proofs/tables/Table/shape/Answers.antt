use Rattle.field_table.proofs.Found.{ready}
use Rattle.field_table.proofs.tables.Table.shape.Goals as goal

pub shape_at-requires-clause-ready : goal.shape_at-requires-clause-ready
shape_at-requires-clause-ready c = ready c.self.inside.nodes c.self.invariant.0 c.self.invariant.1 c.self.invariant.2
