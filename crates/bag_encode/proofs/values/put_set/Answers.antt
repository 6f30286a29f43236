use Rattle.std.proofs.Common.{◌≡◌, ℕ, ◌+◌, ◌++◌, List, [], ◌∷◌, map, drop, Some, sym, ap, ◌∙◌, subst, arith}
use Rattle.std.specs.List.{slice_get}
use Rattle.std.specs.Option.{option_copied}
use Rattle.context_model.specs.Atoms.{Atom, AreAtoms}
use Rattle.bag_model.specs.Scalars.{ScalarKind, IsScalarOf}
use Rattle.scalar_types.specs.KindViews.{kind_of}
use Rattle.scalar_types.specs.Scalars.{value_of}
use Rattle.scalar_types.specs.declared.scalars.Scalar.{Scalar}
use Rattle.bag_encode.specs.Values.{atoms, bare, trees_by, scalar_datum}
use Rattle.bag_encode.proofs.Steps.{IsOnWay, IsOnWay-more, all_at, dropped}
use Rattle.bag_encode.proofs.values.put_set.Goals as goal

abbrev data_of : ScalarKind → List Scalar → List Atom
data_of kind vs = atoms (trees_by (scalar_datum kind) (λ _. bare) (map value_of vs))

turn : (kind : ScalarKind) (vs : List Scalar) (i : ℕ) (v : Scalar) → slice_get vs i ≡ Some v → data_of kind (drop i vs) ≡ scalar_datum kind (value_of v) ∷ data_of kind (drop (i + 1) vs)
turn kind vs i v at = ap (data_of kind) (dropped vs i v at)

pub push_scalar-requires-clause-fits : goal.push_scalar-requires-clause-fits
push_scalar-requires-clause-fits c =
    all_at (IsScalarOf (kind_of c.args.kind.now)) value_of c.args.set.now.items c.loop-at.at c.unwrap.result.now c.requires.shape.2 (sym c.get.ensures ∙ ap option_copied c.unwrap.ensures)

pub push_scalar-requires-clause-short : goal.push_scalar-requires-clause-short
push_scalar-requires-clause-short c =
    let now = subst AreAtoms (turn (kind_of c.args.kind.now) c.args.set.now.items c.loop-at.at c.unwrap.result.now (sym c.get.ensures ∙ ap option_copied c.unwrap.ensures)) c.loop-at.invariant.short in
    omega (arith, now.0)

pub loop-at-preserved : goal.loop-at-preserved
loop-at-preserved c =
    let kind = kind_of c.args.kind.now in
    let vs = c.args.set.now.items in
    let step = turn kind vs c.loop-at.at c.unwrap.result.now (sym c.get.ensures ∙ ap option_copied c.unwrap.ensures) in
    IsOnWay-more (c.args.list.now ++ data_of kind vs) c.loop-at.list c.push_scalar.new.self (scalar_datum kind (value_of c.unwrap.result.now) ∷ []) (data_of kind (drop (c.loop-at.at + 1) vs))
    c.in_ok-push_scalar.ensures (subst (IsOnWay (c.args.list.now ++ data_of kind vs) c.loop-at.list) step c.loop-at.invariant)
