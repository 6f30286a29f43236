use Rattle.std.proofs.Common.{subst}
use Rattle.bag_model.specs.Scalars.{Word}
use Rattle.field_writes.proofs.Apart.{IsWordText}
use Rattle.field_writes.proofs.WordTexts.{no_octets}
use Rattle.field_writes.proofs.literals.read_word.Goals as goal

pub returns-in-None-clause-value : goal.returns-in-None-clause-value
returns-in-None-clause-value c = λ v p.
    no_octets c.args.text.now (rw c.in-None.is at c.in_ok-bytes-in-Bytes.ensures) v
    (subst (λ (w : Word). IsWordText w v c.args.text.now) c.in-Bytes.is p)
