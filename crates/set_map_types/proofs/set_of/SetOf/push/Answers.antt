use Rattle.std.proofs.lemmas.List.{map-append}
use Rattle.context_model.specs.KeyedMerge.{keys_of}
use Rattle.set_map_types.specs.SetAndMapLaws.{IsSet-push}
use Rattle.set_map_types.proofs.set_of.SetOf.push.Goals as goal

pub invariant_of-self-2 : goal.invariant_of-self-2
invariant_of-self-2 g c =
    let codec = c.self.inside.codec in
    rw (c.in_ok-push.ensures.items, map-append)
    (IsSet-push (g.C.Codec.fits codec) (g.C.Codec.spelling codec) (keys_of c.self.inside.entries.items) c.args.value c.self.invariant (rw (← c.self.view_is) at c.requires.fit) (rw (← c.self.view_is) at c.requires.greatest))
