use Rattle.std.proofs.Common.{sym, ap, ◌∙◌}
use Rattle.scalar_types.specs.KindCodec.{kind_comes_back, kind_from}
use Rattle.scalar_types.specs.KindViews.{kind_of}
use Rattle.bag_codec.proofs.encodable.names_kind.Goals as goal

pub returns : goal.returns
returns c =
    let own = c.codec.ensures in (
      λ t. ap kind_of (sym own ∙ c.is_same.ensures.0 t),
      λ e. c.is_same.ensures.1 (own ∙ sym (kind_comes_back c.args.set.now.codec) ∙ ap kind_from e ∙ kind_comes_back c.args.kind.now),
    )
