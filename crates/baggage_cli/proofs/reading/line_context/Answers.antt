use Rattle.text_lines.specs.Lines.{line_value}
use Rattle.baggage_cli.proofs.Misread.{misread_context}
use Rattle.baggage_cli.proofs.reading.line_context.Goals as goal

pub returns-in-Err-clause-err : goal.returns-in-Err-clause-err
returns-in-Err-clause-err c =
    misread_context (line_value c.args.line.now) c.in_ok-bytes.bytes.items c.in-Err.fault c.misread.result c.in_ok-bytes.ensures.ok c.in-Err.ensures.fault c.misread.ensures
