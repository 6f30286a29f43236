use Rattle.context_model.specs.GreedyMerge.{first_of}
use Rattle.set_map_types.specs.Picks.{by_spelling, against_spelling}
use Rattle.set_map_types.specs.SetAndMapLaws.{against_total}
use Rattle.set_map_types.proofs.FirstOfBoth.{first_of_both, turned_last}
use Rattle.set_map_types.proofs.greatest.greatest_join_is_last.Goals as goal

pub returns : goal.returns
returns g c s t =
    let codec = g.C.Codec in
    let against = against_spelling codec.spelling s.codec in
    turned_last (by_spelling codec.spelling s.codec) s.value t.value (first_of against s.value t.value)
    (first_of_both against (against_total (codec.fits s.codec) (codec.spelling s.codec) (g.met.C.Codec.one_value s.codec)) s.value t.value)
