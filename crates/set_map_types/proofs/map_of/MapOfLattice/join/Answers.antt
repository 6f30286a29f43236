use Rattle.std.proofs.Common.{sym, subst}
use Rattle.set_map_types.specs.SetsAndMaps.{IsMap}
use Rattle.set_map_types.specs.SetAndMapLaws.{IsMap-merge}
use Rattle.set_map_types.proofs.map_of.MapOfLattice.join.Goals as goal

pub join_entries-requires-clause-alike : goal.join_entries-requires-clause-alike
join_entries-requires-clause-alike g c = rw c.deref.ensures.value (rw (← c.self.view_is, ← c.other.view_is) at c.requires).values

pub invariant_of-self-2 : goal.invariant_of-self-2
invariant_of-self-2 g c =
    let codec = c.self.inside.codec in
    let ours = c.self.inside.entries.items in
    let theirs = c.other.inside.entries.items in
    let lattice = g.L.Lattice in
    let alike = (rw (← c.self.view_is, ← c.other.view_is) at c.requires) in
    let theirs_map : IsMap (g.C.Codec.fits codec) (g.C.Codec.spelling codec) lattice.proper theirs = subst (λ (d : _). IsMap (g.C.Codec.fits d) (g.C.Codec.spelling d) lattice.proper theirs) (sym alike.codecs) c.other.invariant in
    rw (c.in_ok-join_entries.ensures.ok, c.deref.ensures.value)
    (IsMap-merge (g.C.Codec.fits codec) (g.C.Codec.spelling codec) (g.met.C.Codec.one_value codec) lattice.proper lattice.alike lattice.joined lattice.bottom g.met.L.Lattice.laws ours theirs c.self.invariant theirs_map alike.values)
