use Rattle.std.proofs.Common.{ℕ, List, [], ◌∷◌, ◌++◌, ◌==◌, length, map, take, sym, ◌∙◌, ap, rules, tests}
use Rattle.std.proofs.lemmas.List.{map-append, length_push}
use Rattle.std.proofs.lemmas.Iterator.Splits.{YieldsList-from_slice_split}
use Rattle.std.proofs.lemmas.Iterator.Consumers.{YieldsList-turn, YieldsList-end}
use Rattle.bag_model.specs.Words.{word_text}
use Rattle.text_lines.proofs.Separated.{pieces}
use Rattle.table_text.proofs.ShapeTexts.{none_named, read_text, not_words, one_more, whole_words}
use Rattle.table_text.proofs.shapes.read_words.Goals as goal

pub returns-in_default : goal.returns-in_default
returns-in_default c =
    let text = c.args.text.now in
    let turn = YieldsList-turn (YieldsList-from_slice_split {s = c.into_iter-piece-iterator.result} _ (λ b. b == 44) text (cc) (cc) (cc) (λ x b q k. search (rules, tests))) c.loop-piece.yielded _ c.loop-piece.yielded_by _ _ c.in-Some.piece c.in-Some.is c.next.ensures.steps in
    not_words text (length c.loop-piece.yielded) c.in-Some.piece.now turn (none_named c.in-Some.piece.now c.of_bytes.result c.in_default.is c.of_bytes.ensures)

pub loop-piece-preserved : goal.loop-piece-preserved
loop-piece-preserved c =
    let text = c.args.text.now in
    let turn = YieldsList-turn (YieldsList-from_slice_split {s = c.into_iter-piece-iterator.result} _ (λ b. b == 44) text (cc) (cc) (cc) (λ x b q k. search (rules, tests))) c.loop-piece.yielded _ c.loop-piece.yielded_by _ _ c.in-Some.piece c.in-Some.is c.next.ensures.steps in
    let word = c.in-Some-of_bytes.word in
    let old = map word_text c.loop-piece.words in
    let own = read_text c.in-Some.piece.now word c.in-Some-of_bytes.ensures in
    ap (map word_text) c.in_ok-push.ensures.ok ∙ map-append word_text c.loop-piece.words (word ∷ []) ∙ ap (λ (w : List ℕ). old ++ w ∷ []) (sym own)
    ∙ one_more old (pieces 44 text) (length c.loop-piece.yielded) c.in-Some.piece.now c.loop-piece.invariant turn
    ∙ ap (λ (n : ℕ). take n (pieces 44 text)) (sym (length_push c.loop-piece.yielded c.in-Some.piece))

pub returns : goal.returns
returns c =
    let text = c.args.text.now in
    let end = YieldsList-end (YieldsList-from_slice_split {s = c.into_iter-piece-iterator.result} _ (λ b. b == 44) text (cc) (cc) (cc) (λ x b q k. search (rules, tests))) c.loop-piece.yielded _ c.loop-piece.yielded_by _ _ c.in-None.is c.next.ensures.steps in
    whole_words text c.loop-piece.words (length c.loop-piece.yielded) c.loop-piece.invariant end.1
