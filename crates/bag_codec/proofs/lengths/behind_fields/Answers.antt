use Rattle.std.proofs.Common.{◌≡◌, ◌+◌, ◌<◌, ◌∷◌, length, drop, get_or, rules, arith}
use Rattle.std.proofs.lemmas.List.{drop_more}
use Rattle.context_model.proofs.MergeSteps.{drop-place}
use Rattle.bag_model.specs.declared.words.ScalarWord.TheVariants.{Bool as Boolean}
use Rattle.bag_codec.proofs.Rooms.{field, packed, packed-more, scalars_within, next_fits}
use Rattle.bag_codec.proofs.lengths.behind_fields.Goals as goal

pub offset_bounds-scalars-at : goal.offset_bounds-scalars-at
offset_bounds-scalars-at c =
    let within : c.loop-at.at < length c.args.scalars.now = scalars_within c.args.words.now c.args.scalars.now c.loop-at.at c.requires.fit c.loop-at-test.true in
    search rules

pub bounds-scalars-at : goal.bounds-scalars-at
bounds-scalars-at c = scalars_within c.args.words.now c.args.scalars.now c.loop-at.at c.requires.fit c.loop-at-test.true

pub behind_field-requires-clause-plain : goal.behind_field-requires-clause-plain
behind_field-requires-clause-plain c =
    let within : c.loop-at.at < length c.args.scalars.now = scalars_within c.args.words.now c.args.scalars.now c.loop-at.at c.requires.fit c.loop-at-test.true in
    search rules

pub behind_field-requires-clause-fits : goal.behind_field-requires-clause-fits
behind_field-requires-clause-fits c =
    let within = scalars_within c.args.words.now c.args.scalars.now c.loop-at.at c.requires.fit c.loop-at-test.true in
    (next_fits c.args.words.now c.args.scalars.now c.loop-at.at c.index-scalars-at.result c.loop-at-test.true within c.index-scalars-at.is c.loop-at.invariant.fit).0

pub loop-at-preserved : goal.loop-at-preserved
loop-at-preserved c =
    let i = c.loop-at.at in
    let word = get_or c.args.words.now i Boolean in
    let scalar = c.index-scalars-at.result in
    let left = c.loop-at.left in
    let within = scalars_within c.args.words.now c.args.scalars.now i c.requires.fit c.loop-at-test.true in
    let words = drop_more c.args.words.now i Boolean c.loop-at-test.true in
    let scalars = drop-place c.args.scalars.now i scalar within c.index-scalars-at.is in
    let next_words = drop (i + 1) c.args.words.now in
    let next_scalars = drop (i + 1) c.args.scalars.now in
    let both : packed (drop i c.args.words.now) (drop i c.args.scalars.now) ≡ packed (word ∷ next_words) (scalar ∷ next_scalars) = λ t. packed (words t) (scalars t) in
    let more = packed-more word next_words scalar next_scalars in
    let taken : field word scalar + c.in_ok-left.left ≡ left = c.in_ok-left.ensures in
    let fit = next_fits c.args.words.now c.args.scalars.now i scalar c.loop-at-test.true within c.index-scalars-at.is c.loop-at.invariant.fit in
    record { fit = fit.1; left = omega (arith, taken, c.loop-at.invariant.left, both, more) }
