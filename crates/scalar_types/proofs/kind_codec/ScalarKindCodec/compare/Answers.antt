use Rattle.std.proofs.Common.{sym, ◌∙◌}
use Rattle.bag_model.proofs.SpellingOrder.{spelling-order}
use Rattle.scalar_types.specs.KindViews.{kind_of}
use Rattle.scalar_types.specs.Scalars.{value_of}
use Rattle.scalar_types.proofs.kind_codec.ScalarKindCodec.compare.Goals as goal

pub returns : goal.returns
returns c =
    c.order.ensures
    ∙ sym (spelling-order (kind_of c.args.self.now) (value_of c.args.a.now) (value_of c.args.b.now) c.requires.a_fits c.requires.b_fits)
