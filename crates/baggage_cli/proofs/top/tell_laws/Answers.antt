use Rattle.baggage_cli.proofs.TableLaws.{files_give_one, files_give_tables}
use Rattle.baggage_cli.proofs.top.tell_laws.Goals as goal

pub returns : goal.returns
returns c = record {
  tables = record {
    gives_one = files_give_one c.texts_have_one_table.ensures c.printed_texts_have_no_fault.ensures c.texts_have_one_fault.ensures c.tables_are_unique.ensures c.tables_exclude_faults.ensures c.faults_are_unique.ensures;
    is_table = files_give_tables c.definitions_give_tables.ensures;
  };
  one_collected = c.lines_collect_one_way.ensures;
  one_block = c.lists_have_one_block.ensures;
  fitting_is_safe = c.fitting_tables_are_safe.ensures;
  certificates = record {
    one_verdict = c.certificates_have_one_verdict.ensures;
    truth = c.certificates_that_verify_tell_the_truth.ensures;
  };
  graphs = record {
    definite = c.lines_are_definite.ensures;
    recorded = c.texts_give_recorded_graphs.ensures;
    one_run = c.graphs_have_one_run.ensures.one;
    one_report = c.lists_have_one_report.ensures;
    one_json_report = c.lists_have_one_json_report.ensures;
    honest = c.shown_values_are_honest.ensures;
  };
}
