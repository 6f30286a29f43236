-- The codec of a word, by the form of its values.
use Rattle.bag_model.specs.Scalars.{SpellingForm, TruthByte, UnsignedVarint, SignedVarint, FixedBytes, SignedFixedBytes, TextBytes, RawBytes}
use Rattle.scalar_types.specs.declared.word_codecs.WordCodec.{WordCodec}
use Rattle.scalar_types.specs.declared.word_codecs.WordCodec.TheVariants.{Flag, LexU, LexI, Fixed, SignedFixed, Utf8, Raw}

-- The form of the values.
abbrev pub codec_spelling_form : WordCodec → SpellingForm
codec_spelling_form (Flag codec) = TruthByte
codec_spelling_form (LexU codec) = UnsignedVarint codec.wide
codec_spelling_form (LexI codec) = SignedVarint codec.wide
codec_spelling_form (Fixed codec) = FixedBytes codec.wide
codec_spelling_form (SignedFixed codec) = SignedFixedBytes codec.wide
codec_spelling_form (Utf8 codec) = TextBytes
codec_spelling_form (Raw codec) = RawBytes
