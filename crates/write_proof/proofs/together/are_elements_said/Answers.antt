use Rattle.std.proofs.Common.{◌≡◌, map, Some, sym, ap, ◌∙◌, subst, refl, arith}
use Rattle.std.specs.List.{slice_get}
use Rattle.std.specs.Option.{option_copied}
use Rattle.context_model.proofs.GreedyElements.{All-at}
use Rattle.bag_model.specs.Scalars.{IsScalarOf}
use Rattle.scalar_types.specs.KindViews.{kind_of}
use Rattle.scalar_types.specs.Scalars.{value_of}
use Rattle.write_proof.specs.Together.{IsSaid, HasElement, values_of}
use Rattle.write_proof.proofs.BelowCalls.{in_place, place_in, place_map, place_within, in_values, yes_answer, no_answer, each_more}
use Rattle.write_proof.proofs.TogetherCalls.{set_fits, set_proper, elements_said}
use Rattle.write_proof.proofs.together.are_elements_said.Goals as goal

pub is_element_said-requires : goal.is_element_said-requires
is_element_said-requires c =
    let items = c.args.set.now.items in
    let kind = kind_of c.args.set.now.codec in
    let v = c.unwrap.result.now in
    let there : slice_get items c.loop-at.at ≡ Some v = sym c.get.ensures ∙ ap option_copied c.unwrap.ensures in
    let own = in_values v items (place_in v items c.loop-at.at there) in
    λ other vs i.
    subst (λ k. IsScalarOf k (value_of v)) (sym (set_fits kind (map value_of items) (values_of c.args.others.now) c.requires other vs i))
    (All-at (IsScalarOf kind) (map value_of items) (value_of v) (set_proper kind (map value_of items) (values_of c.args.others.now) c.requires).1 own)

pub returns-then-not-is_element_said : goal.returns-then-not-is_element_said
returns-then-not-is_element_said c =
    let items = c.args.set.now.items in
    let kind = kind_of c.args.set.now.codec in
    let v = c.unwrap.result.now in
    let there : slice_get items c.loop-at.at ≡ Some v = sym c.get.ensures ∙ ap option_copied c.unwrap.ensures in
    no_answer (λ all.
    let bad = c.if-not-is_element_said.ensures.1 ((elements_said kind (map value_of items) (values_of c.args.others.now)).1 all (value_of v) (in_values v items (place_in v items c.loop-at.at there))) in
    cc bad)

pub loop-at-preserved : goal.loop-at-preserved
loop-at-preserved c =
    let items = c.args.set.now.items in
    let v = c.unwrap.result.now in
    let there : slice_get items c.loop-at.at ≡ Some v = sym c.get.ensures ∙ ap option_copied c.unwrap.ensures in
    each_more (λ x. IsSaid (HasElement (value_of x)) (values_of c.args.others.now)) items c.loop-at.at v c.loop-at.invariant there (c.if-not-is_element_said.ensures.0 refl)

pub returns : goal.returns
returns c =
    let items = c.args.set.now.items in
    let others = values_of c.args.others.now in
    yes_answer ((elements_said (kind_of c.args.set.now.codec) (map value_of items) others).0 (λ v i.
    let s = in_place v (map value_of items) i in
    let t = place_map value_of items s.0 v s.1 in
    let within = place_within t.0 items s.0 t.1 in
    let past = c.loop-at-test.false in
    let long = c.len-at-end.ensures in
    subst (λ x. IsSaid (HasElement x) others) t.2 (c.loop-at.invariant s.0 t.0 (omega (arith, within, past, long)) t.1)))
