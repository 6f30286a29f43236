use Rattle.set_map_types.specs.SetAndMapLaws.{set_union}
use Rattle.set_map_types.proofs.set_of.set_join_is_union.Goals as goal

pub returns : goal.returns
returns g c = set_union g.C.Codec.fits g.C.Codec.spelling g.met.C.Codec.one_value
