use Rattle.std.proofs.Common.{IfSome, sym, subst}
use Rattle.bag_model.specs.Scalars.{Plain, IsOfForm, field_spelling}
use Rattle.scalar_types.specs.Fronts.{Begins}
use Rattle.scalar_types.specs.WordCodecs.{codec_spelling_form}
use Rattle.scalar_types.proofs.FormValues.{text_skipped, raw_skipped}
use Rattle.scalar_types.proofs.word_codecs.WordCodec.skip_field.Goals as goal

pub returns-in-Utf8-clause-found : goal.returns-in-Utf8-clause-found
returns-in-Utf8-clause-found c =
    subst (λ codec. IfSome c.skip_ended.result (λ rest. (x : Plain) × Begins (IsOfForm (codec_spelling_form codec)) (field_spelling (codec_spelling_form codec)) c.args.bytes.now x rest.now))
    (sym c.in-Utf8.is) (text_skipped c.args.bytes.now c.skip_ended.result c.skip_ended.ensures.found)

pub returns-in-Raw-clause-found : goal.returns-in-Raw-clause-found
returns-in-Raw-clause-found c =
    subst (λ codec. IfSome c.skip_ended-in-Raw.result (λ rest. (x : Plain) × Begins (IsOfForm (codec_spelling_form codec)) (field_spelling (codec_spelling_form codec)) c.args.bytes.now x rest.now))
    (sym c.in-Raw.is) (raw_skipped c.args.bytes.now c.skip_ended-in-Raw.result c.skip_ended-in-Raw.ensures.found)
