use Rattle.std.proofs.Common.{◌≡◌, ℕ, ◌+◌, List, ◌∷◌, ◌++◌, drop, get_or, length, map, ◌∙◌, subst, arith}
use Rattle.std.proofs.lemmas.List.{drop_more, length-map}
use Rattle.context_model.proofs.MergeSteps.{drop-place}
use Rattle.bag_model.specs.declared.words.ScalarWord.TheVariants.{Bool as Boolean}
use Rattle.bag_model.specs.Scalars.{Word}
use Rattle.scalar_types.specs.declared.scalars.Scalar.{Scalar}
use Rattle.scalar_types.specs.Scalars.{plain_of}
use Rattle.scalar_types.specs.WordCodecs.{codec_spelling_form}
use Rattle.scalar_types.proofs.PackedSteps.{Fit, fields, fits-length, fields_put}
use Rattle.scalar_types.proofs.packed.put_fields.Goals as goal

pub loop-at-preserved : goal.loop-at-preserved
loop-at-preserved c =
    let at : ℕ = c.loop-at.at in
    let words : List Word = c.args.words.now in
    let values : List Scalar = c.args.values.now in
    let word : Word = get_or words at Boolean in
    let value : Scalar = c.index-values-at.result in
    let words_left : drop at words ≡ word ∷ drop (at + 1) words = drop_more words at Boolean (omega arith) in
    let long : length words ≡ length values = fits-length words (map plain_of values) c.requires.fits ∙ length-map values plain_of in
    let values_left : drop at values ≡ value ∷ drop (at + 1) values = drop-place values at value (omega (arith, long)) c.index-values-at.is in
    record {
      fit = (subst (λ l. Fit l (value ∷ drop (at + 1) values)) words_left (subst (Fit (drop at words)) values_left c.loop-at.invariant.fit)).1;
      so_far = fields_put word (drop (at + 1) words) value (drop (at + 1) values) (codec_spelling_form c.of.result) c.of.ensures
          c.loop-at.into.items c.put_field.new.into.items (c.args.into.now.items ++ fields words (map plain_of values)) c.in_ok-put_field.ensures
          (subst (λ l. c.loop-at.into.items ++ fields l (map plain_of (value ∷ drop (at + 1) values)) ≡ c.args.into.now.items ++ fields words (map plain_of values)) words_left
          (subst (λ l. c.loop-at.into.items ++ fields (drop at words) (map plain_of l) ≡ c.args.into.now.items ++ fields words (map plain_of values)) values_left c.loop-at.invariant.so_far));
    }
