use Rattle.std.proofs.Common.{◌≡◌, ℕ, ◌+◌, ◌-◌, ◌≤◌, ◌++◌, List, length, take, drop, replicate, ◌∙◌, ap, arith}
use Rattle.std.proofs.lemmas.List.{drop_at, drop-drop, length-take-le, length-take, length-drop, replicate-append-replicate}
use Rattle.atom_list.proofs.open_places.OpenPlaces.truncate.Goals as goal

-- The levels that are left are closed, as those after them were.
closed_from : (above zeros : List ℕ) (level count : ℕ) → level ≤ count → count ≤ 16 → length above ≡ 16 → zeros ≡ replicate (count - level) 0 → drop count above ≡ replicate (16 - count) 0
    → drop level (take level above ++ (zeros ++ drop (count - level) (drop level above))) ≡ replicate (16 - level) 0
closed_from above zeros level count less few long e closed =
    let behind : level + (count - level) ≡ count = omega arith in
    let all : count - level + (16 - count) ≡ 16 - level = omega arith in
    drop_at (take level above) (zeros ++ drop (count - level) (drop level above)) level (length-take-le level above (omega arith))
    ∙ ap (λ z. z ++ drop (count - level) (drop level above)) e
    ∙ ap (λ v. replicate (count - level) 0 ++ v) (drop-drop (count - level) level above ∙ ap (λ n. drop n above) behind ∙ closed)
    ∙ replicate-append-replicate (count - level) (16 - count) 0
    ∙ ap (λ n. replicate n 0) all

pub invariant_of-self : goal.invariant_of-self
invariant_of-self c =
    let above = c.self.inside.above in
    let count = c.self.inside.count in
    let level = c.args.level in
    let here : length (take count above) ≡ count = length-take-le count above (omega arith) in
    let less : level ≤ count = omega (arith, ap length c.self.view_is) in
    let many : length (take (count - level) (drop level above)) ≡ count - level = omega (arith, length-take (count - level) (drop level above), length-drop level above) in
    let cells : c.fill.new.self ≡ replicate (count - level) 0 = c.fill.ensures.after (λ y same. same) ∙ ap (λ n. replicate n 0) many in
    (omega arith, closed_from above c.fill.new.self level count less (omega arith) (omega arith) cells c.self.invariant.1)
