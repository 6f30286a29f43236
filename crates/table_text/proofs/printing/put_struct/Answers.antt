use Rattle.std.proofs.Common.{◌≡◌, ◌++◌, List, ℕ, map, get_or, append-nil, sym, ap, ◌∙◌, arith}
use Rattle.std.specs.Prelude.{codes}
use Rattle.bag_model.specs.declared.words.ScalarWord.TheVariants.{Bool as Boolean}
use Rattle.bag_model.specs.Words.{word_text}
use Rattle.table_text.proofs.Places.{seen, mapped, comma_before, comma_some, comma_none, next_text}
use Rattle.table_text.proofs.printing.put_struct.Goals as goal
use Rattle.table_text.proofs.printing.put_struct.Goals.{then-at-gt0+in_ok-push-2, else-at-gt0}

pub loop-at-preserved : goal.loop-at-preserved
loop-at-preserved c =
    let at = c.loop-at.at in
    let words = c.args.words.now in
    let items = c.as_slice-word-items.result.now in
    let word = get_or items at Boolean in
    let before = c.loop-at.into.items in
    let comma : c.if-at-gt0.into.items ≡ before ++ comma_before at = elim c.if-at-gt0.branch [
      | then-at-gt0+in_ok-push-2 w ↦ ap (λ v. v.items) w.into-is ∙ w.in_ok-push-2.ensures.items ∙ ap (λ (l : List ℕ). before ++ l) (sym (comma_some at (omega (arith, w.if-at-gt0.true))))
      | else-at-gt0 w ↦ ap (λ v. v.items) w.into-is ∙ sym (append-nil before) ∙ ap (λ (l : List ℕ). before ++ l) (sym (comma_none at w.if-at-gt0.false))
    ] in
    next_text (c.args.into.now.items ++ codes "(") before c.if-at-gt0.into.items c.extend_from_slice.new.self.items
    (map word_text words) at (word_text word) c.loop-at.invariant comma
    (c.in_ok-extend_from_slice.ensures.items ∙ ap (λ (l : List ℕ). c.if-at-gt0.into.items ++ l) (c.as_bytes.ensures.value ∙ c.text.ensures))
    (mapped word_text words at word (seen items Boolean words at c.as_slice-word-items.ensures c.loop-at-test.true))
