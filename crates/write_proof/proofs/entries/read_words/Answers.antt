use Rattle.write_proof.proofs.Forms.{other_words}
use Rattle.write_proof.proofs.entries.read_words.Goals as goal

pub returns-in_default : goal.returns-in_default
returns-in_default c =
    other_words c.args.text.now c.in_ok-first.first.now c.in_ok-first.rest.now c.in_ok-first.ensures.0 c.in_ok-first.ensures.1 c.in_default.not-why c.in_default.not-reach c.in_default.not-uses
