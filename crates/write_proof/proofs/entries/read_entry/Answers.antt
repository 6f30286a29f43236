use Rattle.write_proof.proofs.Forms.{no_characters}
use Rattle.write_proof.proofs.entries.read_entry.Goals as goal

pub returns-in-Err : goal.returns-in-Err
returns-in-Err c = no_characters c.args.line.now c.in_ok-text.text.now c.in_ok-text.ensures c.in-None.ensures c.in-Err.ensures.cases.0
