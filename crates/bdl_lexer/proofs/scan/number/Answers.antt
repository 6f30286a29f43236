use Rattle.std.proofs.Common.{arith}
use Rattle.bdl_lexer.proofs.Scans.{digits_pass, number_stands, number_large}
use Rattle.bdl_lexer.proofs.scan.number.Goals as goal

pub number_of-requires : goal.number_of-requires
number_of-requires c = digits_pass c.args.bytes.now c.digits_len-len.result c.digits_len-len.ensures

pub returns-in-Some-clause-found : goal.returns-in-Some-clause-found
returns-in-Some-clause-found c =
    number_stands c.args.bytes.now c.digits_len-len.result c.in-Some.value c.requires.some c.requires.digit c.digits_len-len.ensures c.in-Some.ensures (omega arith)

pub returns-in-None-clause-fault : goal.returns-in-None-clause-fault
returns-in-None-clause-fault c =
    number_large c.args.bytes.now c.digits_len-len.result c.requires.some c.requires.digit c.digits_len-len.ensures c.in-None.ensures
