use Rattle.std.proofs.Common.{◌↔◌, List, IsTrue, sym, subst}
use Rattle.bag_model.specs.Scalars.{Word, ArePlainsOf, packed_spelling}
use Rattle.scalar_types.specs.Codec.{IsSpelled}
use Rattle.scalar_types.specs.KindViews.{kind_of}
use Rattle.scalar_types.specs.WordCodecs.{codec_spelling_form}
use Rattle.scalar_types.proofs.KindSpelled.{KindSpelled, word_spelled, struct_spelled}
use Rattle.scalar_types.proofs.kind_codec.ScalarKindCodec.spelled.Goals as goal

pub returns-in-One : goal.returns-in-One
returns-in-One c =
    let same = word_spelled c.in-One.word (codec_spelling_form c.of.result) c.of.ensures c.args.bytes.now in
    subst (λ kind. IsTrue c.spelled.result ↔ KindSpelled (kind_of kind) c.args.bytes.now) (sym c.in-One.is)
    (λ t. same.0 (c.spelled.ensures.0 t), λ s. c.spelled.ensures.1 (same.1 s))

pub returns-in-Packed : goal.returns-in-Packed
returns-in-Packed c =
    let words : List Word = c.in-Packed.words in
    let same = struct_spelled words c.args.bytes.now in
    let told : IsTrue c.fields_spelled.result ↔ IsSpelled (ArePlainsOf words) (packed_spelling words) c.args.bytes.now =
    subst (λ ws. IsTrue c.fields_spelled.result ↔ IsSpelled (ArePlainsOf ws) (packed_spelling ws) c.args.bytes.now) c.as_slice.ensures c.fields_spelled.ensures in
    subst (λ kind. IsTrue c.fields_spelled.result ↔ KindSpelled (kind_of kind) c.args.bytes.now) (sym c.in-Packed.is)
    (λ t. same.0 (told.0 t), λ s. told.1 (same.1 s))
