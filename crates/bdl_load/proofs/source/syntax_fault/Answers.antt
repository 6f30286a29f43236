use Rattle.bdl_load.specs.Faults.{found}
use Rattle.bdl_load.specs.Source.{syntactic}
use Rattle.bdl_load.proofs.SourceFaults.{blames_source}
use Rattle.bdl_load.proofs.source.syntax_fault.Goals as goal

pub returns-in-At-clause-says : goal.returns-in-At-clause-says
returns-in-At-clause-says c =
    blames_source c.args.name.now c.args.source.now (found c.spot_of-at.result c.parse_code.result) c.blame.result
    (syntactic (record {
      tokens = c.args.tokens.now;
      number = c.in-At.token;
      code = c.in-At.code;
      fits = c.requires.fits;
      are = c.requires.are;
      first = rw c.in-At.is at c.requires.fault;
      finding_is = cc (c.spot_of-at.ensures, c.parse_code.ensures);
    }))
    c.blame.ensures.says
