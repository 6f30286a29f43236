use Rattle.set_map_types.specs.SetAndMapLaws.{map_union}
use Rattle.set_map_types.proofs.map_of.map_join_is_union.Goals as goal

pub returns : goal.returns
returns g c = map_union g.C.Codec.fits g.C.Codec.spelling g.met.C.Codec.one_value g.L.Lattice.proper g.L.Lattice.joined
