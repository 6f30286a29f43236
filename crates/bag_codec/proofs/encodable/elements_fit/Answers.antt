use Rattle.std.proofs.Common.{rules, sym, ap, ◌∙◌}
use Rattle.std.specs.Option.{option_copied}
use Rattle.scalar_types.specs.KindViews.{kind_of}
use Rattle.scalar_types.specs.Scalars.{value_of}
use Rattle.bag_codec.specs.Encodable.{FitsAtom}
use Rattle.bag_codec.proofs.Parts.{all_at, all_turn, both_ways}
use Rattle.bag_codec.proofs.encodable.elements_fit.Goals as goal

pub returns-then-not-fits_atom : goal.returns-then-not-fits_atom
returns-then-not-fits_atom c = (
  λ t. absurd (cc),
  λ all. c.if-not-fits_atom.ensures.1
      (all_at (FitsAtom (kind_of c.args.kind.now)) value_of c.args.set.now.items c.loop-at.at c.unwrap.result.now all (sym c.get.ensures ∙ ap option_copied c.unwrap.ensures)),
)

pub loop-at-preserved : goal.loop-at-preserved
loop-at-preserved c =
    both_ways c.loop-at.invariant
    (all_turn (FitsAtom (kind_of c.args.kind.now)) value_of c.args.set.now.items c.loop-at.at c.unwrap.result.now (c.if-not-fits_atom.ensures.0 (search rules))
    (sym c.get.ensures ∙ ap option_copied c.unwrap.ensures))
