use Rattle.std.proofs.Common.{◌≡◌, ◌++◌, [], ◌∷◌, codes, string_bytes, ap, ◌∙◌, arith}
use Rattle.bag_model.specs.Words.{word_text}
use Rattle.def_evolve.specs.BreakLists.{spaced}
use Rattle.def_evolve.proofs.WiderLists.{word_at, spaced_turn}
use Rattle.def_evolve.proofs.sides.put_struct.Goals as goal

pub loop-word-preserved : goal.loop-word-preserved
loop-word-preserved c =
    let items = c.as_slice-word-items.result.now in
    let words = c.args.words.now in
    let before = string_bytes c.loop-word.text in
    let middle = string_bytes c.push.new.self in
    let after = string_bytes c.push_str-in-loop-word.new.self in
    let spaced_one : middle ≡ before ++ 32 ∷ [] = c.in_ok-push.ensures.bytes ∙ ap (λ bytes. before ++ bytes) (c.in_ok-push.ensures.ascii (omega arith)) in
    let word_one : after ≡ middle ++ word_text (word_at items c.loop-word.word-index) = c.in_ok-push_str-2.ensures.bytes ∙ ap (λ bytes. middle ++ bytes) c.text.ensures in
    spaced_turn items words c.loop-word.word-index (string_bytes c.args.text.now ++ (codes "struct" ++ spaced words)) before middle after
    c.as_slice-word-items.ensures c.loop-word-test.true c.loop-word.invariant spaced_one word_one
