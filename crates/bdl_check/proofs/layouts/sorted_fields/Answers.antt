use Rattle.std.proofs.Common.{List, [], ◌∷◌, ◌++◌, map, ap, sym, subst, ◌∙◌, rules}
use Rattle.std.specs.List.Sorted.{IsPermutation}
use Rattle.std.proofs.lemmas.List.{take_all, map-append}
use Rattle.std.proofs.lemmas.List.Sorted.{IsPermutation-map, IsNonDecreasingBy-from_sort_by_key}
use Rattle.bdl_parser.specs.Trees.{BagFieldTree}
use Rattle.bdl_parser.specs.Views.{bag_field_of}
use Rattle.bdl_check.proofs.BagSizes.{up_to}
use Rattle.bdl_check.proofs.layouts.sorted_fields.Goals as goal

pub loop-field-preserved : goal.loop-field-preserved
loop-field-preserved c =
    let items = c.as_slice-field-items.result.now in
    let i = c.loop-field.field-index in
    let field = bag_field_of c.field-item.result in
    let pushed = ap (map (λ field. bag_field_of field.now)) c.in_ok-push.ensures.items in
    pushed ∙ map-append (λ field. bag_field_of field.now) c.loop-field.sorted.items _ ∙ ap (λ front. front ++ field ∷ []) c.loop-field.invariant
    ∙ sym (up_to bag_field_of items i c.field-item.result c.loop-field-test.true c.field-item.is)

pub returns-clause-same : goal.returns-clause-same
returns-clause-same c =
    let items = c.as_slice-field-items.result.now in
    let all = c.loop-field.invariant ∙ ap (map bag_field_of) (take_all c.loop-field.field-index items c.loop-field-test.false)
    ∙ c.as_slice-field-items.ensures in
    subst (λ (xs : List BagFieldTree). IsPermutation xs (map (λ field. bag_field_of field.now) c.sort_unstable_by_key.new.self.items)) all
    (IsPermutation-map (λ field. bag_field_of field.now) c.loop-field.sorted.items c.sort_unstable_by_key.new.self.items
    c.sort_unstable_by_key.ensures.permutation)

pub returns-clause-rising : goal.returns-clause-rising
returns-clause-rising c =
    IsNonDecreasingBy-from_sort_by_key (λ field. field.now.number) _ c.sort_unstable_by_key.ensures.sorted (λ a r q k. search rules)
