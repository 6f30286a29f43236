use Rattle.std.proofs.Common.{◌≡◌, map, Some, sym, ap, ◌∙◌, subst, refl, arith}
use Rattle.std.specs.List.{slice_get}
use Rattle.std.specs.Option.{option_copied}
use Rattle.context_model.specs.Orders.{IsIn}
use Rattle.context_model.proofs.GreedyElements.{All-at}
use Rattle.bag_model.specs.Scalars.{IsScalarOf}
use Rattle.scalar_types.specs.KindViews.{kind_of}
use Rattle.scalar_types.specs.Scalars.{value_of}
use Rattle.write_proof.proofs.BelowCalls.{in_place, place_in, place_map, place_within, in_values, from_values, yes_answer, no_answer, each_more}
use Rattle.write_proof.proofs.belows.is_subset.Goals as goal

pub contains-requires : goal.contains-requires
contains-requires c =
    let items = c.args.ours.now.items in
    let v = c.unwrap.result.now in
    let there : slice_get items c.loop-at.at ≡ Some v = sym c.get.ensures ∙ ap option_copied c.unwrap.ensures in
    let fits = All-at (IsScalarOf (kind_of c.args.ours.now.codec)) (map value_of items) (value_of v) c.requires.proper.1 (in_values v items (place_in v items c.loop-at.at there)) in
    subst (λ k. IsScalarOf k (value_of v)) c.requires.kinds fits

pub returns-then-not-contains : goal.returns-then-not-contains
returns-then-not-contains c =
    let items = c.args.ours.now.items in
    let v = c.unwrap.result.now in
    let there : slice_get items c.loop-at.at ≡ Some v = sym c.get.ensures ∙ ap option_copied c.unwrap.ensures in
    no_answer (λ all.
    let bad = c.if-not-contains.ensures.1 (from_values v c.args.theirs.now.items (all (value_of v) (in_values v items (place_in v items c.loop-at.at there)))) in
    cc bad)

pub loop-at-preserved : goal.loop-at-preserved
loop-at-preserved c =
    let items = c.args.ours.now.items in
    let v = c.unwrap.result.now in
    let there : slice_get items c.loop-at.at ≡ Some v = sym c.get.ensures ∙ ap option_copied c.unwrap.ensures in
    each_more (λ x. IsIn (value_of x) (map value_of c.args.theirs.now.items)) items c.loop-at.at v c.loop-at.invariant there (in_values v c.args.theirs.now.items (c.if-not-contains.ensures.0 refl))

pub returns : goal.returns
returns c =
    let items = c.args.ours.now.items in
    yes_answer (λ v i.
    let s = in_place v (map value_of items) i in
    let t = place_map value_of items s.0 v s.1 in
    let within = place_within t.0 items s.0 t.1 in
    let past = c.loop-at-test.false in
    let long = c.len-at-end.ensures in
    subst (λ x. IsIn x (map value_of c.args.theirs.now.items)) t.2 (c.loop-at.invariant s.0 t.0 (omega (arith, within, past, long)) t.1))
