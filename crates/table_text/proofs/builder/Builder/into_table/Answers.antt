use Rattle.table_text.proofs.Finished.{rows_finished, table_finished}
use Rattle.std.proofs.Common.{sym, ap, ◌∙◌}
use Rattle.table_text.specs.TableRows.{rows_of}
use Rattle.table_text.proofs.builder.Builder.into_table.Goals as goal

pub of-requires : goal.of-requires
of-requires c = record {
  table = table_finished c.close_to.new.self c.in_ok-close_to.ensures.sound c.in_ok-close_to.ensures.depth;
  indexed = c.in_ok-close_to.ensures.sound.bag.indexed;
}

pub returns : goal.returns
returns c = ap (rows_of 0) c.of.ensures ∙ sym (rows_finished c.close_to.new.self c.in_ok-close_to.ensures.depth) ∙ c.in_ok-close_to.ensures.rows
