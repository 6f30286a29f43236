use Rattle.std.proofs.Common.{subst}
use Rattle.text_lines.specs.Lines.{line_value}
use Rattle.wire_bytes.specs.Reading.{IsContextRefusalOf}
use Rattle.baggage_cli.proofs.HexLengths.{few_bytes}
use Rattle.baggage_cli.proofs.Misread.{misread_context}
use Rattle.baggage_cli.proofs.reading.context_bytes.Goals as goal

pub returns-in-Ok-clause-few : goal.returns-in-Ok-clause-few
returns-in-Ok-clause-few c = few_bytes c.args.line.now.text.now c.in_ok-bytes.bytes.items c.in_ok-bytes.ensures.ok

pub returns-in-Err-clause-err : goal.returns-in-Err-clause-err
returns-in-Err-clause-err c =
    let first = subst (λ input. IsContextRefusalOf input c.in-Err.fault) c.as_slice.ensures.value c.in-Err.ensures.fault in
    misread_context (line_value c.args.line.now) c.in_ok-bytes.bytes.items c.in-Err.fault c.misread.result c.in_ok-bytes.ensures.ok first c.misread.ensures
