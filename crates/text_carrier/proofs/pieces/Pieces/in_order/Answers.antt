use Rattle.std.proofs.Common.{[], List, ℕ, length, map, Some, sym, ◌∙◌, ap, subst, arith}
use Rattle.std.specs.List.{slice_index_or}
use Rattle.std.proofs.lemmas.List.{map_push, length_push, length-map}
use Rattle.text_carrier.specs.Views.{IsTextAt}
use Rattle.text_carrier.proofs.Kept.{count_told, texts_more}
use Rattle.text_carrier.proofs.pieces.Pieces.in_order.Goals as goal

pub returns-in_default-text_at-clause-err : goal.returns-in_default-text_at-clause-err
returns-in_default-text_at-clause-err c = λ said keeps.
    let told = count_told said c.in-Some.count (sym c.in-Some.is ∙ keeps.count) in (
      told.0,
      record {
        within = omega (arith, told.1, c.loop-piece-test.true);
        missing = c.in_default-text_at.ensures said keeps;
        first = λ other less. (c.loop-piece.invariant.each said keeps other less).0;
      },
    )

pub loop-piece-preserved : goal.loop-piece-preserved
loop-piece-preserved c =
    let old = c.loop-piece.texts.items in
    let pushed = c.in_ok-push.ensures.items in
    record {
      many = omega (arith, ap length pushed, length_push old c.in-Some-text_at.text, c.loop-piece.invariant.many);
      each = λ said keeps place less.
          subst (λ (texts : List (List ℕ)). IsTextAt said place (Some (slice_index_or texts place [])))
          (sym (ap (map (λ text. text.now)) pushed ∙ map_push (λ text. text.now) old c.in-Some-text_at.text))
          (texts_more said (map (λ text. text.now) old) c.in-Some-text_at.text.now c.loop-piece.piece
          (length-map old (λ text. text.now) ∙ c.loop-piece.invariant.many)
          (c.loop-piece.invariant.each said keeps) (c.in-Some-text_at.ensures said keeps) place less);
    }

pub returns-clause-ok : goal.returns-clause-ok
returns-clause-ok c = λ said keeps.
    let told = count_told said c.in-Some.count (sym c.in-Some.is ∙ keeps.count) in
    let long = length-map c.loop-piece.texts.items (λ text. text.now) in (
      told.0,
      record {
        as_many = omega (arith, long, told.1, c.loop-piece.invariant.many, c.loop-piece-test.false);
        each = λ place less. c.loop-piece.invariant.each said keeps place (omega (arith, less, long, c.loop-piece.invariant.many));
      },
    )
