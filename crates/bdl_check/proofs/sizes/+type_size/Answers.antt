use Rattle.std.proofs.Common.{◌≡◌, true, ℕ, Option, refl, sym, subst, ap, ◌∙◌, get_or, arith}
use Rattle.std.specs.Option.{IsSome}
use Rattle.bdl_parser.specs.declared.trees.TypeNode.{TypeNode}
use Rattle.bdl_parser.specs.Trees.{TypeTree}
use Rattle.bdl_parser.specs.Views.{tree_at, tree_of}
use Rattle.bdl_check.specs.declared.types.Role.TheVariants.{BagField}
use Rattle.bdl_check.specs.Declarations.{kind_named, number_named}
use Rattle.bdl_check.specs.Passes.{passes_type}
use Rattle.bdl_check.specs.Recursion.{names_in}
use Rattle.bdl_check.specs.Sizes.{HasTypeSize, AreKnown}
use Rattle.bdl_check.proofs.PassedTypes.{declared, number_of, map_value}
use Rattle.bdl_check.proofs.TypeSizes.{size, counter_size, map_size, flat_size, name_size, known_right, map_depth}
use Rattle.bdl_check.proofs.sizes.+type_size.Goals as goal

pub type_size-requires : goal.type_size-requires
type_size-requires t c =
    let at = c.args.node.now.at in
    let ds = c.args.declarations.now in
    let sizes = c.args.sizes.now in
    let key = tree_of c.in-Map.field-0.value in
    let value = tree_of c.in-Map.value.value in
    let is = ap (tree_at at) c.in-Map.is in
    let whole = ap map_depth is in
    let part = ap (λ (node : TypeNode). map_depth (tree_of node)) c.deref.ensures in (
      omega (arith, c.decreases, whole, part),
      (
        c.requires.count,
        (
          rw c.deref.ensures (known_right ds sizes (names_in key) (names_in value)
              (subst (λ (tree : TypeTree). AreKnown ds sizes (names_in tree)) is c.requires.known)),
          rw c.deref.ensures (map_value (kind_named ds) key value at
              (subst (λ (tree : TypeTree). passes_type (kind_named ds) BagField tree ≡ true) is c.requires.passes)),
        ),
      ),
    )

pub unwrap-number-requires : goal.unwrap-number-requires
unwrap-number-requires t c =
    let at = c.args.node.now.at in
    let kinds = kind_named c.args.declarations.now in
    let passes = subst (λ (tree : TypeTree). passes_type kinds BagField tree ≡ true) (ap (tree_at at) c.in-Name.is) c.requires.passes in
    let d = declared c.args.declarations.now BagField c.in-Name.name passes in
    let n = number_of c.args.declarations.now c.in-Name.name d.0 d.1 in
    subst (λ (o : Option ℕ). IsSome o) (sym (c.number.ensures ∙ ap (number_named c.args.declarations.now) c.as_str.ensures.value ∙ n.1)) refl

pub returns-in-Counter : goal.returns-in-Counter
returns-in-Counter t c =
    let ds = c.args.declarations.now in
    subst (λ (tree : TypeTree). HasTypeSize ds tree c.with_keys.result) (sym (ap (tree_at c.args.node.now.at) c.in-Counter.is))
    (counter_size ds c.args.node.now.at c.with_keys.result.levels c.with_keys.result.fields c.with_keys.ensures.levels c.with_keys.ensures.fields)

pub returns-in-Map : goal.returns-in-Map
returns-in-Map t c =
    let ds = c.args.declarations.now in
    let at = c.args.node.now.at in
    let is = ap (tree_at at) c.in-Map.is in
    let r = c.with_keys-in-Map.result in
    let under = rw c.deref.ensures at c.type_size.ensures in
    subst (λ (tree : TypeTree). HasTypeSize ds tree r) (sym is)
    (map_size ds (tree_of c.in-Map.field-0.value) (tree_of c.in-Map.value.value) at c.type_size.result r.levels r.fields
    (subst (λ (tree : TypeTree). passes_type (kind_named ds) BagField tree ≡ true) is c.requires.passes) under c.with_keys-in-Map.ensures.levels
    c.with_keys-in-Map.ensures.fields)

pub returns-in-Name : goal.returns-in-Name
returns-in-Name t c =
    let ds = c.args.declarations.now in
    let sizes = c.args.sizes.now in
    let at = c.args.node.now.at in
    let is = ap (tree_at at) c.in-Name.is in
    let n = c.unwrap-number.result in
    let number = sym (ap (number_named ds) c.as_str.ensures.value) ∙ sym c.number.ensures ∙ c.unwrap-number.ensures in
    subst (λ (tree : TypeTree). HasTypeSize ds tree (get_or sizes n (size 0 0))) (sym is)
    (name_size ds sizes c.in-Name.name at n (size 0 0) c.requires.count
    (subst (λ (tree : TypeTree). AreKnown ds sizes (names_in tree)) is c.requires.known)
    (subst (λ (tree : TypeTree). passes_type (kind_named ds) BagField tree ≡ true) is c.requires.passes) number)

pub returns-in-Scalar : goal.returns-in-Scalar
returns-in-Scalar t c = flat_size c.args.declarations.now c.args.node.now.at c.args.node.now.form c.in-Scalar.is c.requires.passes

pub returns-in-Scalar-2 : goal.returns-in-Scalar-2
returns-in-Scalar-2 t c = flat_size c.args.declarations.now c.args.node.now.at c.args.node.now.form c.in-Scalar.is c.requires.passes

pub returns-in-Scalar-3 : goal.returns-in-Scalar-3
returns-in-Scalar-3 t c = flat_size c.args.declarations.now c.args.node.now.at c.args.node.now.form c.in-Scalar.is c.requires.passes

pub returns-in-Scalar-4 : goal.returns-in-Scalar-4
returns-in-Scalar-4 t c = flat_size c.args.declarations.now c.args.node.now.at c.args.node.now.form c.in-Scalar.is c.requires.passes
