use Rattle.bdl_load.specs.Faults.{found}
use Rattle.bdl_load.specs.Source.{lexical}
use Rattle.bdl_load.proofs.SourceFaults.{blames_source}
use Rattle.bdl_load.proofs.source.lexical_fault.Goals as goal

pub returns-in-At-clause-says : goal.returns-in-At-clause-says
returns-in-At-clause-says c =
    blames_source c.args.name.now c.args.source.now
    (found (record { line = c.in-At.line; column = c.in-At.column }) c.lexical_code.result) c.blame.result
    (lexical (record {
      code = c.in-At.code;
      fits = c.requires.fits;
      first = rw c.in-At.is at c.requires.fault;
      code_is = c.lexical_code.ensures;
    }))
    c.blame.ensures.says
