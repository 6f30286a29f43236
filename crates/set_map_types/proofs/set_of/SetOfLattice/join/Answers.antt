use Rattle.std.proofs.Common.{◌≡◌, sym, subst}
use Rattle.context_model.specs.GreedyMerge.{greedy_merge}
use Rattle.context_model.specs.KeyedMerge.{keys_of}
use Rattle.context_model.proofs.MergeLaws.{keys_of-merge_with}
use Rattle.set_map_types.specs.SetsAndMaps.{IsSet, value_cmp}
use Rattle.set_map_types.specs.SetAndMapLaws.{IsMap-bare, IsSet-union}
use Rattle.set_map_types.proofs.set_of.SetOfLattice.join.Goals as goal

pub join_entries-requires-clause-ours : goal.join_entries-requires-clause-ours
join_entries-requires-clause-ours g c =
    let codec = c.self.inside.codec in
    IsMap-bare (g.C.Codec.fits codec) (g.C.Codec.spelling codec) c.self.inside.entries.items c.self.invariant

pub join_entries-requires-clause-theirs : goal.join_entries-requires-clause-theirs
join_entries-requires-clause-theirs g c =
    let codec = c.self.inside.codec in
    let theirs = c.other.inside.entries.items in
    let same = (rw (← c.self.view_is, ← c.other.view_is) at c.requires) in
    rw c.deref.ensures.value
    (IsMap-bare (g.C.Codec.fits codec) (g.C.Codec.spelling codec) theirs (subst (λ (d : _). IsSet (g.C.Codec.fits d) (g.C.Codec.spelling d) (keys_of theirs)) (sym same) c.other.invariant))

pub invariant_of-self-2 : goal.invariant_of-self-2
invariant_of-self-2 g c =
    let codec = c.self.inside.codec in
    let ours = c.self.inside.entries.items in
    let theirs = c.other.inside.entries.items in
    let same = (rw (← c.self.view_is, ← c.other.view_is) at c.requires) in
    rw (c.in_ok-join_entries.ensures.ok, c.deref.ensures.value, keys_of-merge_with)
    (IsSet-union (g.C.Codec.fits codec) (g.C.Codec.spelling codec) (g.met.C.Codec.one_value codec) (keys_of ours) (keys_of theirs) c.self.invariant (subst (λ (d : _). IsSet (g.C.Codec.fits d) (g.C.Codec.spelling d) (keys_of theirs)) (sym same) c.other.invariant))

pub returns-clause-ok : goal.returns-clause-ok
returns-clause-ok g c =
    let codec = c.self.inside.codec in
    let ours = c.self.inside.entries.items in
    let theirs = c.other.inside.entries.items in
    let union : keys_of c.join_entries.new.ours.items ≡ greedy_merge (value_cmp (g.C.Codec.spelling codec)) (keys_of ours) (keys_of theirs) = rw (c.in_ok-join_entries.ensures.ok, c.deref.ensures.value, keys_of-merge_with) in
    rw (← c.self.view_is, ← c.other.view_is) (λ i. record { codec = codec; items = union i })
