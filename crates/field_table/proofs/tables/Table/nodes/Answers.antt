use Rattle.field_table.proofs.Found.{ready}
use Rattle.field_table.proofs.tables.Table.nodes.Goals as goal

pub returns-clause-ready : goal.returns-clause-ready
returns-clause-ready c = ready c.self.inside.nodes c.self.invariant.0 c.self.invariant.1 c.self.invariant.2
