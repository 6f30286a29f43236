use Rattle.set_map_types.specs.Picks.{by_spelling}
use Rattle.set_map_types.specs.SetAndMapLaws.{value_cmp_total}
use Rattle.set_map_types.proofs.FirstOfBoth.{first_of_both}
use Rattle.set_map_types.proofs.least.least_join_is_first.Goals as goal

pub returns : goal.returns
returns g c s t =
    let codec = g.C.Codec in
    first_of_both (by_spelling codec.spelling s.codec) (value_cmp_total (codec.fits s.codec) (codec.spelling s.codec) (g.met.C.Codec.one_value s.codec)) s.value t.value
