use Rattle.std.proofs.Common.{◌↔◌, ℕ, Bool, List, IsTrue, sym, subst}
use Rattle.bag_model.specs.Scalars.{IsOfForm, plain_spelling}
use Rattle.scalar_types.specs.Codec.{IsSpelled}
use Rattle.scalar_types.specs.WordCodecs.{codec_spelling_form}
use Rattle.scalar_types.specs.declared.word_codecs.WordCodec.{WordCodec}
use Rattle.scalar_types.proofs.FormValues.{truth_spelled, unsigned_spelled, signed_spelled, fixed_spelled, signed_fixed_spelled, text_spelled, raw_spelled}
use Rattle.scalar_types.proofs.word_codecs.WordCodec.spelled.Goals as goal

-- The result says of a codec whether the bytes are spelled in its form.
Tells : List ℕ → Bool → WordCodec → Type 0
Tells bytes result codec = IsTrue result ↔ IsSpelled (IsOfForm (codec_spelling_form codec)) (plain_spelling (codec_spelling_form codec)) bytes

pub returns-in-Flag : goal.returns-in-Flag
unfolding Tells
returns-in-Flag c =
    let same = truth_spelled c.args.bytes.now in
    subst (Tells c.args.bytes.now c.spelled.result) (sym c.in-Flag.is) (λ t. same.0 (c.spelled.ensures.0 t), λ s. c.spelled.ensures.1 (same.1 s))

pub returns-in-LexU : goal.returns-in-LexU
unfolding Tells
returns-in-LexU c =
    let same = unsigned_spelled c.in-LexU.codec.wide c.args.bytes.now in
    subst (Tells c.args.bytes.now c.spelled-in-LexU.result) (sym c.in-LexU.is) (λ t. same.0 (c.spelled-in-LexU.ensures.0 t), λ s. c.spelled-in-LexU.ensures.1 (same.1 s))

pub returns-in-LexI : goal.returns-in-LexI
unfolding Tells
returns-in-LexI c =
    let same = signed_spelled c.in-LexI.codec.wide c.args.bytes.now in
    subst (Tells c.args.bytes.now c.spelled-in-LexI.result) (sym c.in-LexI.is) (λ t. same.0 (c.spelled-in-LexI.ensures.0 t), λ s. c.spelled-in-LexI.ensures.1 (same.1 s))

pub returns-in-Fixed : goal.returns-in-Fixed
unfolding Tells
returns-in-Fixed c =
    let same = fixed_spelled c.in-Fixed.codec.wide c.args.bytes.now in
    subst (Tells c.args.bytes.now c.spelled-in-Fixed.result) (sym c.in-Fixed.is) (λ t. same.0 (c.spelled-in-Fixed.ensures.0 t), λ s. c.spelled-in-Fixed.ensures.1 (same.1 s))

pub returns-in-SignedFixed : goal.returns-in-SignedFixed
unfolding Tells
returns-in-SignedFixed c =
    let same = signed_fixed_spelled c.in-SignedFixed.codec.wide c.args.bytes.now in
    subst (Tells c.args.bytes.now c.spelled-in-SignedFixed.result) (sym c.in-SignedFixed.is) (λ t. same.0 (c.spelled-in-SignedFixed.ensures.0 t), λ s. c.spelled-in-SignedFixed.ensures.1 (same.1 s))

pub returns-in-Utf8 : goal.returns-in-Utf8
unfolding Tells
returns-in-Utf8 c =
    let same = text_spelled c.args.bytes.now in
    subst (Tells c.args.bytes.now c.spelled-in-Utf8.result) (sym c.in-Utf8.is) (λ t. same.0 (c.spelled-in-Utf8.ensures.0 t), λ s. c.spelled-in-Utf8.ensures.1 (same.1 s))

pub returns-in-Raw : goal.returns-in-Raw
unfolding Tells
returns-in-Raw c =
    let same = raw_spelled c.args.bytes.now in
    subst (Tells c.args.bytes.now c.spelled-in-Raw.result) (sym c.in-Raw.is) (λ t. same.0 (c.spelled-in-Raw.ensures.0 t), λ s. c.spelled-in-Raw.ensures.1 (same.1 s))
