use Rattle.std.proofs.Common.{subst}
use Rattle.bag_model.specs.Scalars.{Word}
use Rattle.field_writes.specs.Ends.{BeginsWithOne}
use Rattle.field_writes.proofs.Apart.{IsWordText}
use Rattle.field_writes.proofs.Taking.{no_string_word, no_cut_word}
use Rattle.field_writes.proofs.literals.take_word.Goals as goal

pub returns-in-None-clause-value : goal.returns-in-None-clause-value
returns-in-None-clause-value c = λ v rest p.
    no_string_word c.args.text.now (rw c.in-None.is at c.in_ok-string.ensures) v rest
    (subst (λ (w : Word). BeginsWithOne (IsWordText w v) c.args.text.now rest) c.in-Str.is p)

pub returns-in-None-2 : goal.returns-in-None-2
returns-in-None-2 c = record {
  value = no_cut_word c.args.word c.args.text.now c.split_at_stop.result.0.now c.split_at_stop.result.1.now c.in_default.not-Str
      c.split_at_stop.ensures.front c.split_at_stop.ensures.end c.split_at_stop.ensures.same (rw c.in-None-2.is at c.in_ok-scalar.ensures.value);
  plain = tt;
}
