use Rattle.field_writes.proofs.Whole.{no_count_writer, no_count_colon, no_count_number}
use Rattle.field_writes.proofs.writes.read_count.Goals as goal

pub returns-in_default : goal.returns-in_default
returns-in_default c = no_count_writer c.args.form c.args.text.now (rw c.in_default.is at c.in_ok-writer.ensures)

pub returns-in_default-behind : goal.returns-in_default-behind
returns-in_default-behind c =
    no_count_colon c.args.form c.args.text.now c.in-Some.writer c.in-Some.rest.now (rw c.in-Some.is at c.in_ok-writer.ensures) c.in_default-behind.ensures

pub returns : goal.returns
returns c =
    no_count_number c.args.form c.args.text.now c.in-Some.writer c.in-Some.rest.now c.in-Some-behind.digits.now (rw c.in-Some.is at c.in_ok-writer.ensures)
    c.in-Some-behind.ensures c.in-None.ensures
