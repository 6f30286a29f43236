use Rattle.std.proofs.Common.{refl}
use Rattle.bdl_load.specs.declared.faults.DefCode.TheVariants.{DefTooLong}
use Rattle.bdl_load.specs.declared.faults.TheConstants.{FIRST_SPOT}
use Rattle.bdl_load.specs.Faults.{found}
use Rattle.bdl_load.specs.Source.{too_long}
use Rattle.bdl_load.proofs.SourceFaults.{blames_source}
use Rattle.bdl_load.proofs.source.read_source.Goals as goal

pub returns-then-source-gt-SOURCE_MAX-clause-fault : goal.returns-then-source-gt-SOURCE_MAX-clause-fault
returns-then-source-gt-SOURCE_MAX-clause-fault c =
    blames_source c.args.name.now c.args.source.now (found FIRST_SPOT DefTooLong) c.blame.result
    (too_long c.if-source-gt-SOURCE_MAX.true refl) c.blame.ensures.says
