use Rattle.std.proofs.Common.{◌≡◌, ◌↔◌, ℕ, ◌+◌, List, [], ◌∷◌, drop, get_or, IsTrue, sym, subst, arith}
use Rattle.std.proofs.lemmas.List.{drop_more, drop_all}
use Rattle.bag_model.specs.declared.words.ScalarWord.TheVariants.{Bool as Boolean}
use Rattle.bag_model.specs.Scalars.{Word, Plain}
use Rattle.scalar_types.specs.WordCodecs.{codec_spelling_form}
use Rattle.scalar_types.proofs.PackedSteps.{FieldsSpelled, FirstField, first_field, fields_more, fields_less, no_fields, only_no_fields, is_nothing_left}
use Rattle.scalar_types.proofs.packed.fields_spelled.Goals as goal

pub loop-word-preserved : goal.loop-word-preserved
loop-word-preserved c =
    let words : List Word = c.args.words.now in
    let index : ℕ = c.loop-word.word-index in
    let behind : List Word = drop (index + 1) words in
    let word : Word = get_or words index Boolean in
    let rest : List ℕ = c.loop-word.rest.now in
    let after : List ℕ = c.in-Some.after.now in
    let v : Plain = c.in-Some.ensures.found.0 in
    let next : drop index words ≡ word ∷ behind = drop_more words index Boolean (omega arith) in
    let first : FirstField word rest v after = first_field word (codec_spelling_form c.of.result) c.of.ensures rest v after c.in-Some.ensures.found.1 in (
      λ s. fields_less word behind rest after v first (subst (λ l. FieldsSpelled l rest) next (c.loop-word.invariant.0 s)),
      λ s. c.loop-word.invariant.1 (subst (λ l. FieldsSpelled l rest) (sym next) (v ∷ s.0, fields_more word behind rest after v s.0 first s.1)),
    )

pub returns : goal.returns
returns c =
    let words : List Word = c.args.words.now in
    let index : ℕ = c.loop-word.word-index in
    let rest : List ℕ = c.loop-word.rest.now in
    let done : drop index words ≡ [] = drop_all index words c.loop-word-test.false in
    let left : IsTrue c.is_empty.result ↔ (rest ≡ []) = is_nothing_left rest c.is_empty.result c.is_empty.ensures in (
      λ t. c.loop-word.invariant.1 (subst (λ l. FieldsSpelled l rest) (sym done) ([], no_fields rest (left.0 t))),
      λ s. left.1 (only_no_fields rest (subst (λ l. FieldsSpelled l rest) done (c.loop-word.invariant.0 s))),
    )
