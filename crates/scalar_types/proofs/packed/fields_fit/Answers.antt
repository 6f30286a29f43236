use Rattle.std.proofs.Common.{◌≡◌, length, map}
use Rattle.std.proofs.lemmas.List.{length-map}
use Rattle.scalar_types.specs.Scalars.{plain_of}
use Rattle.scalar_types.proofs.PackedSteps.{fits-length}
use Rattle.scalar_types.proofs.packed.fields_fit.Goals as goal

pub returns-then-words-values : goal.returns-then-words-values
returns-then-words-values c = (
  λ t. absurd (cc),
  λ fit.
      let mapped : length c.args.words.now ≡ length (map plain_of c.args.values.now) = fits-length c.args.words.now (map plain_of c.args.values.now) fit in
      let same : length c.args.words.now ≡ length c.args.values.now = simp length-map at mapped in
      absurd (c.if-words-values.true same),
)
