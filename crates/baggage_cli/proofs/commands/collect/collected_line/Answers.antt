use Rattle.std.proofs.Common.{subst}
use Rattle.text_lines.specs.Lines.{lines_of}
use Rattle.wire_bytes.specs.Reading.{IsContextRefusalOf}
use Rattle.baggage_cli.proofs.Misread.{misread_pieces}
use Rattle.baggage_cli.proofs.commands.collect.collected_line.Goals as goal

pub returns : goal.returns
returns c =
    let first = subst (λ input. IsContextRefusalOf input c.in-Err.fault) c.as_slice.ensures.value c.in-Err.ensures.fault in
    misread_pieces (lines_of c.args.input.now) c.in_ok-bytes.bytes.items c.in-Err.fault c.misread.result c.in_ok-bytes.ensures.ok first c.misread.ensures
