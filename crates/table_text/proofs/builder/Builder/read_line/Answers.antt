use Rattle.std.proofs.lemmas.Result.{err_from_is_err_and}
use Rattle.std.proofs.Common.{reverse, arith}
use Rattle.table_text.specs.Builder.{rows_so_far}
use Rattle.table_text.proofs.Finished.{few_open}
use Rattle.table_text.proofs.LineRefusals.{sound_row, unread_refused}
use Rattle.table_text.proofs.builder.Builder.read_line.Goals as goal

pub returns-in_err-row-clause-err : goal.returns-in_err-row-clause-err
returns-in_err-row-clause-err c =
    let e = err_from_is_err_and c.from_residual.result c.from_residual.ensures.1 in
    rw (e.1, e.2)
    (unread_refused (reverse (rows_so_far c.args.self.now)) c.args.line.now (omega (arith, c.requires.fresh, few_open c.args.self.now c.requires.sound)) c.in_err-row.field-0.0 c.in_err-row.ensures.err)

pub add-requires : goal.add-requires
add-requires c = record {
  sound = c.requires.sound;
  fresh = c.requires.fresh;
  row = sound_row c.args.line.now c.in_ok-row.row c.in_ok-row.ensures.ok c.in_ok-row.ensures.indexed;
}
