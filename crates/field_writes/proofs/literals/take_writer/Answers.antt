use Rattle.field_writes.proofs.Taking.{no_writer}
use Rattle.field_writes.proofs.literals.take_writer.Goals as goal

pub returns : goal.returns
returns c = no_writer c.args.form c.args.text.now (rw c.in_default.is at c.in_ok-writer.ensures) (rw c.in-None.is at c.in_ok-writer-2.ensures)
