use Rattle.std.proofs.Common.{Some, rules}
use Rattle.context_model.specs.ContextFault.{IsFirstContextFault}
use Rattle.wire_bytes.specs.Reading.{byte_code_of}
use Rattle.header_text.specs.Reading.{IsCarriedBy}
use Rattle.header_text.proofs.Lost.{faulty}
use Rattle.header_text.proofs.reading.read_part.Goals as goal

pub returns-in-Err-At : goal.returns-in-Err-At
returns-in-Err-At c =
    let carried : IsCarriedBy c.args.part.now (Some c.in-Some.bytes.items) = search rules in
    let fault : IsFirstContextFault c.in-Some.bytes.items c.in-Err-At.field-0-0 (byte_code_of c.in-Err-At.field-0-1) = search rules in
    faulty c.args.part.now c.in-Some.bytes.items c.in-Err-At.field-0-0 (byte_code_of c.in-Err-At.field-0-1) carried fault
