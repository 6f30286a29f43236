use Rattle.std.proofs.Common.{◌≡◌, ℕ, List, [], ◌∷◌, ◌++◌, length, map, take, sym, ◌∙◌, ap, subst, arith}
use Rattle.std.specs.Fmt.{decimal}
use Rattle.std.specs.List.{AllByRecursion}
use Rattle.std.proofs.lemmas.List.{map-append, length_push}
use Rattle.std.proofs.lemmas.Iterator.Splits.{YieldsList-from_str_split}
use Rattle.std.proofs.lemmas.Iterator.Consumers.{YieldsList-turn, YieldsList-end}
use Rattle.graph_lines.specs.Forms.{IsNumber}
use Rattle.text_lines.proofs.Separated.{pieces}
use Rattle.graph_lines.proofs.Pushing.{all_push, one_more, whole_text, some_numbers, not_numbers}
use Rattle.graph_lines.proofs.numbers.read_numbers.Goals as goal

pub returns-in_default : goal.returns-in_default
returns-in_default c =
    let text = c.args.text.now in
    let turn = YieldsList-turn (YieldsList-from_str_split {s = c.into_iter-word-iterator.result} 32 text (omega arith) (cc) (cc) (cc)) c.loop-word.yielded _ c.loop-word.yielded_by _ _ c.in-Some.word c.in-Some.is c.next.ensures.steps in
    not_numbers text (length c.loop-word.yielded) c.in-Some.word.now turn c.in_default.ensures

pub loop-word-preserved : goal.loop-word-preserved
loop-word-preserved c =
    let text = c.args.text.now in
    let turn = YieldsList-turn (YieldsList-from_str_split {s = c.into_iter-word-iterator.result} 32 text (omega arith) (cc) (cc) (cc)) c.loop-word.yielded _ c.loop-word.yielded_by _ _ c.in-Some.word c.in-Some.is c.next.ensures.steps in
    let said = c.in-Some-read_number.ensures in
    let old = map decimal c.loop-word.numbers.items in
    let pushed : map decimal c.push.new.self.items ≡ old ++ c.in-Some.word.now ∷ [] =
    ap (map decimal) c.in_ok-push.ensures.items ∙ map-append decimal c.loop-word.numbers.items (c.in-Some-read_number.number ∷ []) ∙ ap (λ (w : List ℕ). old ++ w ∷ []) (sym said.1)
    in
    record {
      so_far = pushed ∙ one_more old (pieces 32 text) (length c.loop-word.yielded) c.in-Some.word.now c.loop-word.invariant.so_far turn
          ∙ ap (λ (n : ℕ). take n (pieces 32 text)) (sym (length_push c.loop-word.yielded c.in-Some.word));
      all = subst (AllByRecursion IsNumber) (sym c.in_ok-push.ensures.items) (all_push IsNumber c.loop-word.numbers.items c.in-Some-read_number.number c.loop-word.invariant.all said.0);
    }

pub returns : goal.returns
returns c =
    let text = c.args.text.now in
    let end = YieldsList-end (YieldsList-from_str_split {s = c.into_iter-word-iterator.result} 32 text (omega arith) (cc) (cc) (cc)) c.loop-word.yielded _ c.loop-word.yielded_by _ _ c.in-None.is c.next.ensures.steps in
    let whole = whole_text text (map decimal c.loop-word.numbers.items) (length c.loop-word.yielded) c.loop-word.invariant.so_far end.1 in
    (some_numbers c.loop-word.numbers.items whole.0, c.loop-word.invariant.all, whole.1)
