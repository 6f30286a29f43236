use Rattle.std.proofs.Common.{rules, of_calls, ◌≡◌, ℕ, ◌≤◌, ◌<◌, List, length, get_or, true, false, sym, subst, arith}
use Rattle.std.proofs.Math.Dec.{leb}
use Rattle.std.proofs.lemmas.Bool.{leb-true, le-leb, ltb-true}
use Rattle.std.proofs.lemmas.Fn.{always_returns_same}
use Rattle.std.proofs.lemmas.List.Sorted.{IsPartitionedBy-leb}
use Rattle.std.specs.List.Sorted.{IsPartitionedBy, IsPartitionPoint}
use Rattle.context_model.specs.Orders.{IsIn}
use Rattle.field_table.proofs.SlotRanges.{ends_rise, at_point, in_point}
use Rattle.field_table.proofs.views.SlotSet.contains.Goals as goal

pub returns-then-place-len : goal.returns-then-place-len
returns-then-place-len c =
    let xs = c.self.inside.ranges.items in
    let n = c.args.slot in
    let place = c.partition_point-place.result in
    let range = c.index.result.now in
    let same : c.deref.result.now ≡ xs = c.deref.ensures.value in
    let point : IsPartitionPoint (λ (range : ℕ × ℕ). leb range.1 n ≡ true) (λ (range : ℕ × ℕ). leb range.1 n ≡ false) xs place =
    subst (λ (l : List (ℕ × ℕ)). IsPartitionPoint (λ (range : ℕ × ℕ). leb range.1 n ≡ true) (λ (range : ℕ × ℕ). leb range.1 n ≡ false) l place) same
    (c.partition_point-place.ensures.partitioned (λ (range : ℕ × ℕ). leb range.1 n) (always_returns_same _ _ _ (λ a r f k. search (rules, of_calls)))
    (subst (λ (l : List (ℕ × ℕ)). IsPartitionedBy (λ (range : ℕ × ℕ). leb range.1 n) l) (sym same) (IsPartitionedBy-leb (λ (range : ℕ × ℕ). range.1) xs n (ends_rise xs c.self.invariant))))
    in
    let within : place < length xs = omega (arith, c.self.inside.ranges.ok.0) in
    let here : range ≡ get_or xs place range = c.index.ensures in (
      λ yes. subst (IsIn n) c.self.view_is (in_point xs n place range point within (subst (λ (r : ℕ × ℕ). r.0 ≤ n) here (leb-true range.0 n yes))),
      λ at. le-leb range.0 n (subst (λ (r : ℕ × ℕ). r.0 ≤ n) (sym here) (at_point xs n place range c.self.invariant point (subst (IsIn n) (sym c.self.view_is) at)).1),
    )

pub returns-else-place-len : goal.returns-else-place-len
returns-else-place-len c =
    let xs = c.self.inside.ranges.items in
    let n = c.args.slot in
    let place = c.partition_point-place.result in
    let same : c.deref.result.now ≡ xs = c.deref.ensures.value in
    let point : IsPartitionPoint (λ (range : ℕ × ℕ). leb range.1 n ≡ true) (λ (range : ℕ × ℕ). leb range.1 n ≡ false) xs place =
    subst (λ (l : List (ℕ × ℕ)). IsPartitionPoint (λ (range : ℕ × ℕ). leb range.1 n ≡ true) (λ (range : ℕ × ℕ). leb range.1 n ≡ false) l place) same
    (c.partition_point-place.ensures.partitioned (λ (range : ℕ × ℕ). leb range.1 n) (always_returns_same _ _ _ (λ a r f k. search (rules, of_calls)))
    (subst (λ (l : List (ℕ × ℕ)). IsPartitionedBy (λ (range : ℕ × ℕ). leb range.1 n) l) (sym same) (IsPartitionedBy-leb (λ (range : ℕ × ℕ). range.1) xs n (ends_rise xs c.self.invariant))))
    in (
      λ yes. absurd (let less = ltb-true place c.len.result yes in omega (arith, less)),
      λ at. absurd (let r = at_point xs n place (0, 0) c.self.invariant point (subst (IsIn n) (sym c.self.view_is) at) in omega (arith, r.0, c.self.inside.ranges.ok.0)),
    )
