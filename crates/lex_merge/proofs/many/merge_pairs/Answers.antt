use Rattle.std.proofs.Common.{◌≡◌, ◌↔◌, ℕ, ◌+◌, ◌*◌, ◌≤◌, ◌<◌, refl, sym, ◌∙◌, Option, Some, None, [], ◌∷◌, ◌++◌, length, length-append, ap, arith}
use Rattle.std.specs.Prelude.{IsSome}
use Rattle.std.specs.Vec.Iter.{into_iter_items, into_iter_len}
use Rattle.std.specs.Option.{option_to_list}
use Rattle.lex_merge.proofs.Standing.{stand_same, stand_stand, stand_part}
use Rattle.lex_merge.proofs.many.merge_pairs.Goals as goal

one_taken : {A : Type 0} (taken : Option A) (n : ℕ) → (IsSome taken ↔ (0 < n)) → 0 < n → length (option_to_list taken) ≡ 1
one_taken (Some x) n there some = refl
one_taken None n there some = absurd (cc (there.1 some))

pub loop-first-preserved : goal.loop-first-preserved
loop-first-preserved c =
    let fewer = c.loop-first.fewer.items in
    let first = c.in-Some.first in
    let second = option_to_list c.next-in-Some.result in
    let rest = into_iter_items c.next-in-Some.new.self in
    let one_more = ap length c.in_ok-push.ensures.items in
    let parts = length-append fewer (c.in_ok-merged.merged ∷ []) in
    let left = c.in-Some.ensures.len in
    let left_then = c.next-in-Some.ensures.len in
    let before : 2 * length fewer + into_iter_len c.loop-first.left ≤ length c.args.contexts.items = c.loop-first.invariant.even (omega (arith, left)) in
    let pushed = ap (λ lists. lists ++ rest) c.in_ok-push.ensures.items in
    let taken = ap (λ lists. fewer ++ first ∷ lists) (sym c.next-in-Some.ensures.items) ∙ ap (λ lists. fewer ++ lists) (sym c.in-Some.ensures.items) in
    record {
      same = stand_stand _ _ _ (stand_same _ _ pushed)
          (stand_stand _ _ _ (stand_part fewer (first ∷ second) rest c.in_ok-merged.merged c.in_ok-merged.ensures.merged c.in_ok-merged.ensures.one_by_one)
          (stand_stand _ _ _ (stand_same _ _ taken) c.loop-first.invariant.same));
      half = omega (arith, one_more, parts, left, left_then, before);
      even = λ some.
          let taken = one_taken c.next-in-Some.result (into_iter_len c.next.new.self) c.next-in-Some.ensures.variant (omega (arith, left_then, some)) in
          omega (arith, one_more, parts, left, left_then, before, taken);
    }
