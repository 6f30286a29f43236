use Rattle.std.proofs.Common.{◌≡◌, ℕ, ◌+◌, List, get_or, sym, ◌∙◌, subst, add-one, suc, arith}
use Rattle.std.proofs.lemmas.List.{append_cancel_left}
use Rattle.bag_model.specs.declared.words.ScalarWord.TheVariants.{Bool as Boolean}
use Rattle.bag_model.specs.Scalars.{Word, Plain}
use Rattle.text_model.specs.Commas.{comma_before}
use Rattle.scalar_types.specs.Scalars.{plain_of}
use Rattle.field_writes.specs.Ends.{BeginsWithOne}
use Rattle.field_writes.proofs.Apart.{IsWordText}
use Rattle.field_writes.proofs.Structs.{FieldsBack, FieldsOn, IsNext, back_next, on_next, on_nowhere, fields_end, no_fields_end}
use Rattle.field_writes.proofs.Taking.{drop_next, fields_then, then_fields}
use Rattle.field_writes.proofs.literals.take_fields.Goals as goal

pub returns-in_default : goal.returns-in_default
returns-in_default c =
    let words : List Word = c.args.words.now in
    let at = c.loop-at.at in
    let word = get_or words at Boolean in
    let is = drop_next words at Boolean c.loop-at-test.true in
    λ vs rest p. on_nowhere words at c.loop-at.fields c.loop-at.rest.now c.args.text.now word is c.loop-at.invariant.forth
    (λ v front behind comma b. c.in_default.ensures front comma) vs rest (fields_then words vs rest c.args.text.now p)

pub returns-in_default-2 : goal.returns-in_default-2
returns-in_default-2 c =
    let words : List Word = c.args.words.now in
    let at = c.loop-at.at in
    let word = get_or words at Boolean in
    let own : List ℕ = c.in-Some.front.now in
    let is = drop_next words at Boolean c.loop-at-test.true in
    let none = rw c.in_default-2.is at c.in_ok-field.ensures.value in
    λ vs rest p. on_nowhere words at c.loop-at.fields c.loop-at.rest.now c.args.text.now word is c.loop-at.invariant.forth
    (λ v front behind comma b. none v behind (subst (λ (l : List ℕ). BeginsWithOne (IsWordText word v) l behind)
    (append_cancel_left (comma_before at) front own (sym comma ∙ c.in-Some.ensures)) b)) vs rest (fields_then words vs rest c.args.text.now p)

pub loop-at-preserved : goal.loop-at-preserved
loop-at-preserved c =
    let words : List Word = c.args.words.now in
    let at = c.loop-at.at in
    let word = get_or words at Boolean in
    let whole : List ℕ = c.args.text.now in
    let left : List ℕ = c.loop-at.rest.now in
    let more : List ℕ = c.in-Some-2.more.now in
    let done : List Plain = c.loop-at.fields in
    let v : Plain = plain_of c.in-Some-2.field in
    let next : IsNext words at v left more = record {
      word = word;
      words_are = drop_next words at Boolean c.loop-at-test.true;
      front = c.in-Some.front.now;
      comma = c.in-Some.ensures;
      begins = rw c.in-Some-2.is at c.in_ok-field.ensures.value;
    } in
    let grown = sym c.in_ok-push.ensures.ok in
    let one : suc at ≡ at + 1 = sym (add-one at) in
    record {
      back = subst (λ (n : ℕ). FieldsBack words n c.push.new.self more whole) one
          (subst (λ (l : List Plain). FieldsBack words (suc at) l more whole) grown (back_next words at done left whole v more next c.loop-at.invariant.back));
      forth = subst (λ (n : ℕ). FieldsOn words n c.push.new.self more whole) one
          (subst (λ (l : List Plain). FieldsOn words (suc at) l more whole) grown (on_next words at done left whole v more next c.loop-at.invariant.forth));
    }

pub returns-in-Some-behind : goal.returns-in-Some-behind
returns-in-Some-behind c =
    let words : List Word = c.args.words.now in
    then_fields words c.loop-at.fields c.in-Some-behind.rest.now c.args.text.now
    (fields_end words c.loop-at.at c.loop-at.fields c.loop-at.rest.now c.args.text.now c.in-Some-behind.rest.now
    (omega (arith, c.loop-at-test.false)) c.loop-at.invariant.back c.in-Some-behind.ensures)

pub returns : goal.returns
returns c =
    let words : List Word = c.args.words.now in
    λ vs rest p. no_fields_end words c.loop-at.at c.loop-at.fields c.loop-at.rest.now c.args.text.now
    (omega (arith, c.loop-at-test.false)) c.loop-at.invariant.forth c.in-None.ensures vs rest (fields_then words vs rest c.args.text.now p)
