use Rattle.std.proofs.Common.{Result, IfOk, sym, subst}
use Rattle.bag_model.specs.Scalars.{Word}
use Rattle.scalar_types.specs.KindViews.{kind_of}
use Rattle.scalar_types.specs.WordCodecs.{codec_spelling_form}
use Rattle.scalar_types.proofs.KindSpelled.{SpellsKind, KindSpelled, word_spelled, word_taken}
use Rattle.scalar_types.proofs.kind_codec.ScalarKindCodec.take.Goals as goal

pub returns-in-One : goal.returns-in-One
returns-in-One c =
    let word : Word = c.in-One.word in
    let same = word_spelled word (codec_spelling_form c.of.result) c.of.ensures c.args.bytes.now in
    record {
      taken = subst (λ kind. IfOk c.take.result (SpellsKind (kind_of kind) c.args.bytes.now)) (sym c.in-One.is)
          (word_taken word (codec_spelling_form c.of.result) c.of.ensures c.args.bytes.now c.take.result c.take.ensures.plain c.take.ensures.taken);
      refused = λ e s. c.take.ensures.refused e (same.1 (subst (λ kind. KindSpelled (kind_of kind) c.args.bytes.now) c.in-One.is s));
    }
