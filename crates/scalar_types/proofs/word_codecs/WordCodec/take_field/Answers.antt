use Rattle.std.proofs.Common.{ℕ, List, rules, sym, subst}
use Rattle.std.specs.Prelude.{IsUtf8}
use Rattle.bag_model.specs.Scalars.{IsOfForm, field_spelling, terminated}
use Rattle.scalar_types.specs.Codec.{AlwaysFits, IsSpelled}
use Rattle.scalar_types.specs.Fronts.{Begins, BeginsWithSome}
use Rattle.scalar_types.specs.WordCodecs.{codec_spelling_form}
use Rattle.scalar_types.proofs.FormValues.{no_text_begins}
use Rattle.scalar_types.proofs.word_codecs.WordCodec.take_field.Goals as goal

pub returns-in_err-take_owned-in-Utf8-clause-refused : goal.returns-in_err-take_owned-in-Utf8-clause-refused
returns-in_err-take_owned-in-Utf8-clause-refused c = λ e.
    let text : List ℕ = c.in_ok-text-in-Utf8.text.items in
    let rest : List ℕ = c.in_ok-text-in-Utf8.rest.now in
    let begins : Begins AlwaysFits terminated c.args.bytes.now text rest = search rules in
    let none : IsSpelled {V = List ℕ} IsUtf8 (λ w. w) text → ⊥ = search (rules, e, c.in_err-take_owned-in-Utf8.ensures.refused) in
    subst (λ codec. BeginsWithSome (IsOfForm (codec_spelling_form codec)) (field_spelling (codec_spelling_form codec)) c.args.bytes.now → ⊥)
    (sym c.in-Utf8.is) (no_text_begins c.args.bytes.now text rest begins none)
