use Rattle.write_proof.proofs.WholeVerdict.{do_begin}
use Rattle.write_proof.proofs.checker.heading_of.Goals as goal

pub returns : goal.returns
returns c = do_begin c.args.entries.now c.in-Why.step c.in-Why.path c.in-Value.text c.if-entries-lt2.false c.in-Why.is c.in-Value.is
