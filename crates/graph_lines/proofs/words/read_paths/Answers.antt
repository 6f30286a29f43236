use Rattle.std.proofs.Common.{◌≡◌, ℕ, true, false, List, [], ◌∷◌, ◌++◌, length, map, take, Bor, sym, ◌∙◌, ap, subst, arith}
use Rattle.std.specs.List.{AllByRecursion}
use Rattle.std.proofs.lemmas.List.{map-append, length_push}
use Rattle.std.proofs.lemmas.Iterator.Splits.{YieldsList-from_str_split}
use Rattle.std.proofs.lemmas.Iterator.Consumers.{YieldsList-turn, YieldsList-end}
use Rattle.graph_lines.specs.Forms.{IsPath}
use Rattle.text_lines.proofs.Separated.{pieces}
use Rattle.graph_lines.proofs.Pushing.{all_push, one_more, whole_text, not_paths}
use Rattle.graph_lines.proofs.words.read_paths.Goals as goal

pub returns-then-not-is_path : goal.returns-then-not-is_path
returns-then-not-is_path c =
    let text = c.args.text.now in
    let turn = YieldsList-turn (YieldsList-from_str_split {s = c.into_iter-path-iterator.result} 32 text (omega arith) (cc) (cc) (cc)) c.loop-path.yielded _ c.loop-path.yielded_by _ _ c.in-Some.path c.in-Some.is c.next.ensures.steps in
    not_paths text (length c.loop-path.yielded) c.in-Some.path.now turn (λ is.
    let bad : true ≡ false = sym (c.is_path.ensures.1 (subst IsPath (sym c.as_bytes.ensures.value) is)) ∙ c.if-not-is_path.true in cc bad)

pub loop-path-preserved : goal.loop-path-preserved
loop-path-preserved c =
    let text = c.args.text.now in
    let turn = YieldsList-turn (YieldsList-from_str_split {s = c.into_iter-path-iterator.result} 32 text (omega arith) (cc) (cc) (cc)) c.loop-path.yielded _ c.loop-path.yielded_by _ _ c.in-Some.path c.in-Some.is c.next.ensures.steps in
    let old = map (λ (path : Bor (List ℕ)). path.now) c.loop-path.paths.items in
    let pushed : map (λ (path : Bor (List ℕ)). path.now) c.push.new.self.items ≡ old ++ c.in-Some.path.now ∷ [] =
    ap (map (λ (path : Bor (List ℕ)). path.now)) c.in_ok-push.ensures.items ∙ map-append (λ (path : Bor (List ℕ)). path.now) c.loop-path.paths.items (c.in-Some.path ∷ [])
    in
    record {
      so_far = pushed ∙ one_more old (pieces 32 text) (length c.loop-path.yielded) c.in-Some.path.now c.loop-path.invariant.so_far turn
          ∙ ap (λ (n : ℕ). take n (pieces 32 text)) (sym (length_push c.loop-path.yielded c.in-Some.path));
      all = subst (AllByRecursion IsPath) (sym pushed) (all_push IsPath old c.in-Some.path.now c.loop-path.invariant.all (subst IsPath c.as_bytes.ensures.value (c.is_path.ensures.0 c.if-not-is_path.false)));
    }

pub returns : goal.returns
returns c =
    let text = c.args.text.now in
    let end = YieldsList-end (YieldsList-from_str_split {s = c.into_iter-path-iterator.result} 32 text (omega arith) (cc) (cc) (cc)) c.loop-path.yielded _ c.loop-path.yielded_by _ _ c.in-None.is c.next.ensures.steps in
    let words = map (λ (path : Bor (List ℕ)). path.now) c.loop-path.paths.items in
    let whole = whole_text text words (length c.loop-path.yielded) c.loop-path.invariant.so_far end.1 in
    (whole.0, c.loop-path.invariant.all, whole.1)
