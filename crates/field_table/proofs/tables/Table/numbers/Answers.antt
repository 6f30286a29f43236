use Rattle.field_table.proofs.Found.{ready}
use Rattle.field_table.proofs.tables.Table.numbers.Goals as goal

pub put_numbers-requires-clause-ready : goal.put_numbers-requires-clause-ready
put_numbers-requires-clause-ready c = ready c.self.inside.nodes c.self.invariant.0 c.self.invariant.1 c.self.invariant.2
