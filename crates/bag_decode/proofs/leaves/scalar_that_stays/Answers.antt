use Rattle.std.proofs.Common.{◌≡◌, drop, refl, sym, ap, ◌∙◌, subst}
use Rattle.context_model.specs.Paths.{atom_at, path_before}
use Rattle.bag_model.specs.Typed.{IsSpelling}
use Rattle.bag_walks.proofs.Gathering.{stays_reads, none_stays, stays_there}
use Rattle.scalar_types.specs.KindViews.{kind_of}
use Rattle.scalar_types.specs.Scalars.{value_of}
use Rattle.bag_decode.proofs.Known.{datum_is, datum_stands}
use Rattle.bag_decode.proofs.leaves.scalar_that_stays.Goals as goal

pub take_known-requires : goal.take_known-requires
take_known-requires c =
    let list = c.args.list.now in
    let from = c.args.from in
    let at = c.in-Some.at in
    let there = stays_there c.args.pick list from c.data_end.result at c.in-Some.ensures in
    let payload : c.rest.result.now ≡ drop 1 (atom_at list at) = c.rest.ensures ∙ ap (drop 1) c.atom.ensures in
    subst (IsSpelling (kind_of c.args.kind.now)) (sym payload)
    (c.requires.typed (drop 1 (atom_at list at)) (datum_stands list (path_before list from) from c.data_end.result at c.requires.behind c.data_end.ensures there.0 there.1 there.2))

pub returns-in_ok-take_known-in-Some : goal.returns-in_ok-take_known-in-Some
returns-in_ok-take_known-in-Some c =
    let list = c.args.list.now in
    let from = c.args.from in
    let at = c.in-Some.at in
    let v = value_of c.in_ok-take_known-in-Some.field-0 in
    let payload : c.rest.result.now ≡ drop 1 (atom_at list at) = c.rest.ensures ∙ ap (drop 1) c.atom.ensures in
    let there = stays_there c.args.pick list from c.data_end.result at c.in-Some.ensures in (
      refl,
      stays_reads (kind_of c.args.kind.now) list (path_before list from) from c.data_end.result c.requires.behind c.data_end.ensures c.args.pick at v c.in-Some.ensures
          c.in_ok-take_known-in-Some.ensures.fits (datum_is list at _ there.2 (sym payload ∙ c.in_ok-take_known-in-Some.ensures.spelled)),
    )

pub returns-in-None : goal.returns-in-None
returns-in-None c =
    let list = c.args.list.now in
    (refl, none_stays (kind_of c.args.kind.now) list (path_before list c.args.from) c.args.from c.data_end.result c.requires.behind c.data_end.ensures c.args.pick c.in-None.ensures)
