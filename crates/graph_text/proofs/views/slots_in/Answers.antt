use Rattle.std.proofs.Common.{◌↔◌, ℕ, rules, sym, subst}
use Rattle.std.proofs.lemmas.List.Sorted.{IsNonDecreasingBy-from_sort_by_key}
use Rattle.std.specs.List.Sorted.{IsNonDecreasingBy}
use Rattle.context_model.specs.Orders.{IsIn}
use Rattle.graph_text.specs.Additions.{InSome}
use Rattle.graph_text.proofs.Ranges.{some_permutation}
use Rattle.graph_text.proofs.views.slots_in.Goals as goal

pub merged-requires : goal.merged-requires
merged-requires c =
    subst (IsNonDecreasingBy (λ (range : ℕ × ℕ). range.0)) (sym c.as_slice.ensures.value)
    (IsNonDecreasingBy-from_sort_by_key (λ (range : ℕ × ℕ). range.0) _ c.in_ok-sort_by_key.ensures.sorted (λ a r q k. search rules))

pub returns-clause-each : goal.returns-clause-each
returns-clause-each c =
    some_permutation c.args.ranges.items c.sort_by_key.new.self.items c.in_ok-sort_by_key.ensures.permutation c.in_ok-slots.slots
    (subst (λ ranges. (slot : ℕ) → IsIn slot c.in_ok-slots.slots ↔ InSome ranges slot) c.as_slice.ensures.value c.in_ok-slots.ensures.each)
