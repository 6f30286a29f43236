use Rattle.std.proofs.Common.{◌≡◌, true, ◌==◌, List, map, take, drop, ◌+◌, sym, subst, ◌∙◌, ap}
use Rattle.std.specs.List.{list_all, flat_map}
use Rattle.std.proofs.lemmas.List.{take_all}
use Rattle.bdl_parser.specs.Trees.{BagFieldTree}
use Rattle.bdl_parser.specs.Views.{bag_field_of}
use Rattle.bdl_check.specs.declared.types.Role.TheVariants.{BagField}
use Rattle.bdl_check.specs.Declarations.{kind_named}
use Rattle.bdl_check.specs.Fields.{numbers_of}
use Rattle.bdl_check.specs.Passes.{are_distinct, passes_type}
use Rattle.bdl_check.specs.Recursion.{names_in}
use Rattle.bdl_check.specs.Sizes.{HasSize, AreKnown}
use Rattle.bdl_check.proofs.BagSizes.{split_at, up_to, all_middle, known_middle, new_middle}
use Rattle.bdl_check.proofs.TypeSizes.{empty_size, more_size}
use Rattle.bdl_check.proofs.sizes.bag_size.Goals as goal

pub loop-field-init : goal.loop-field-init
loop-field-init c = empty_size c.args.declarations.now

pub type_size-requires : goal.type_size-requires
type_size-requires c =
    let ds = c.args.declarations.now in
    let items = c.as_slice-field-items.result.now in
    let i = c.loop-field.field-index in
    let front = map bag_field_of (take i items) in
    let here = bag_field_of c.field-item.result in
    let rest = map bag_field_of (drop (i + 1) items) in
    let split = sym c.as_slice-field-items.ensures ∙ split_at bag_field_of items i c.field-item.result c.loop-field-test.true c.field-item.is in
    record {
      count = c.requires.count;
      known = known_middle ds c.args.sizes.now front here rest
          (subst (λ (fields : List BagFieldTree). AreKnown ds c.args.sizes.now (flat_map (λ (field : BagFieldTree). names_in field.kind) fields))
          split c.requires.known);
      passes = all_middle (λ (field : BagFieldTree). passes_type (kind_named ds) BagField field.kind) front here rest
          (subst (λ (fields : List BagFieldTree). list_all (λ (field : BagFieldTree). passes_type (kind_named ds) BagField field.kind) fields ≡ true)
          split c.requires.types);
    }

pub loop-field-preserved : goal.loop-field-preserved
loop-field-preserved c =
    let ds = c.args.declarations.now in
    let items = c.as_slice-field-items.result.now in
    let i = c.loop-field.field-index in
    let front = map bag_field_of (take i items) in
    let here = bag_field_of c.field-item.result in
    let rest = map bag_field_of (drop (i + 1) items) in
    let split = sym c.as_slice-field-items.ensures ∙ split_at bag_field_of items i c.field-item.result c.loop-field-test.true c.field-item.is in
    let fresh = new_middle front here rest (subst (λ (fields : List BagFieldTree). are_distinct (λ a b. a == b) (numbers_of fields) ≡ true) split
    c.requires.numbers) in
    subst (λ (fields : List BagFieldTree). HasSize ds fields c.with_field-size.result)
    (sym (up_to bag_field_of items i c.field-item.result c.loop-field-test.true c.field-item.is))
    (more_size ds front here c.loop-field.size c.type_size.result c.with_field-size.result c.loop-field.invariant c.type_size.ensures fresh
    c.with_field-size.ensures.levels c.with_field-size.ensures.fields)

pub returns : goal.returns
returns c =
    let ds = c.args.declarations.now in
    let items = c.as_slice-field-items.result.now in
    let all = ap (map bag_field_of) (take_all c.loop-field.field-index items c.loop-field-test.false) ∙ c.as_slice-field-items.ensures in
    subst (λ (fields : List BagFieldTree). HasSize ds fields c.loop-field.size) all c.loop-field.invariant
