use Rattle.std.proofs.Common.{◌≡◌, ◌↔◌, ℕ, ◌+◌, List, [], ◌∷◌, ◌++◌, drop, get_or, IsTrue, rules, sym, ap, ◌∙◌, subst, arith}
use Rattle.std.proofs.lemmas.List.{drop_more, drop_all, append-nil, append_assoc}
use Rattle.bag_model.specs.declared.words.ScalarWord.TheVariants.{Bool as Boolean}
use Rattle.bag_model.specs.Scalars.{Word, Plain}
use Rattle.scalar_types.specs.Scalars.{plain_of}
use Rattle.scalar_types.specs.WordCodecs.{codec_spelling_form}
use Rattle.scalar_types.proofs.PackedSteps.{SpellsFields, FieldsSpelled, FirstField, first_field, fields_more, fields_less, no_fields, is_nothing_left}
use Rattle.scalar_types.proofs.packed.take_fields.Goals as goal

pub loop-word-preserved : goal.loop-word-preserved
loop-word-preserved c =
    let words : List Word = c.args.words.now in
    let index : ℕ = c.loop-word.word-index in
    let behind : List Word = drop (index + 1) words in
    let word : Word = get_or words index Boolean in
    let rest : List ℕ = c.loop-word.rest.now in
    let after : List ℕ = c.in_ok-value.after.now in
    let v : Plain = plain_of c.in_ok-value.value in
    let next : drop index words ≡ word ∷ behind = drop_more words index Boolean (omega arith) in
    let first : FirstField word rest v after = first_field word (codec_spelling_form c.of.result) c.of.ensures rest v after c.in_ok-value.ensures.taken in
    let pushed : c.push.new.self ≡ c.loop-word.values ++ v ∷ [] = search rules in
    record {
      back = λ vs s. subst (λ l. SpellsFields words c.args.bytes.now l) (sym (append_assoc c.loop-word.values (v ∷ []) vs) ∙ ap (λ l. l ++ vs) (sym pushed))
          (c.loop-word.invariant.back (v ∷ vs) (subst (λ l. SpellsFields l rest (v ∷ vs)) (sym next) (fields_more word behind rest after v vs first s)));
      forth = λ s. fields_less word behind rest after v first (subst (λ l. FieldsSpelled l rest) next (c.loop-word.invariant.forth s));
    }

pub returns-then-is_empty-clause-taken : goal.returns-then-is_empty-clause-taken
returns-then-is_empty-clause-taken c =
    let words : List Word = c.args.words.now in
    let index : ℕ = c.loop-word.word-index in
    let rest : List ℕ = c.loop-word.rest.now in
    let done : drop index words ≡ [] = drop_all index words c.loop-word-test.false in
    let left : IsTrue c.is_empty.result ↔ (rest ≡ []) = is_nothing_left rest c.is_empty.result c.is_empty.ensures in
    let empty : rest ≡ [] = left.0 c.if-is_empty.true in
    subst (λ l. SpellsFields words c.args.bytes.now l) (append-nil c.loop-word.values)
    (c.loop-word.invariant.back [] (subst (λ l. SpellsFields l rest []) (sym done) (no_fields rest empty)))
