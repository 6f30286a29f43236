use Rattle.std.proofs.Common.{◌≡◌, ◌+◌, drop, map, refl, sym, ap, ◌∙◌, subst, arith}
use Rattle.context_model.specs.GreedyMerge.{AllBelow}
use Rattle.context_model.specs.Paths.{atom_at, path_before}
use Rattle.bag_model.specs.Scalars.{scalar_cmp, spelling}
use Rattle.bag_model.specs.Typed.{IsSpelling}
use Rattle.bag_walks.specs.Gathering.{GathersData, IsDatumAt}
use Rattle.bag_walks.proofs.Sets.{data_below, data_more, data_other, set_reads}
use Rattle.scalar_types.specs.KindViews.{kind_of}
use Rattle.scalar_types.specs.Scalars.{value_of}
use Rattle.scalar_types.specs.declared.kinds.ScalarKind.{ScalarKind}
use Rattle.scalar_types.specs.declared.scalars.Scalar.{Scalar}
use Rattle.set_map_types.specs.SetsAndMaps.{Held, value_cmp}
use Rattle.bag_decode.proofs.Fields.{map_push}
use Rattle.bag_decode.proofs.Known.{below_codec, datum_is, datum_stands, no_header_front}
use Rattle.bag_decode.proofs.leaves.set_of.Goals as goal
use Rattle.bag_decode.proofs.leaves.set_of.Goals.{then-is_datum+in_ok-take_known+in_ok-push, else-is_datum}

pub take_known-requires : goal.take_known-requires
take_known-requires c =
    let list = c.args.list.now in
    let from = c.args.from in
    let at = c.loop-at.at in
    let payload : c.rest.result.now ≡ drop 1 (atom_at list at) = c.rest.ensures ∙ ap (drop 1) c.atom.ensures in
    subst (IsSpelling (kind_of c.args.kind.now)) (sym payload)
    (c.requires.typed (drop 1 (atom_at list at))
    (datum_stands list (path_before list from) from c.data_end-at-end.result at c.requires.behind c.data_end-at-end.ensures c.loop-at.auto.at c.loop-at-test.true (c.if-is_datum.ensures.0 refl)))

pub push-requires-clause-greatest : goal.push-requires-clause-greatest
push-requires-clause-greatest c =
    let list = c.args.list.now in
    let from = c.args.from in
    let at = c.loop-at.at in
    let kind = c.args.kind.now in
    let items = c.loop-at.set.items in
    let v = c.in_ok-take_known.field-0 in
    let its = c.data_end-at-end.ensures in
    let payload : c.rest.result.now ≡ drop 1 (atom_at list at) = c.rest.ensures ∙ ap (drop 1) c.atom.ensures in
    let is = datum_is list at _ (c.if-is_datum.ensures.0 refl) (sym payload ∙ c.in_ok-take_known.ensures.spelled) in
    let below : AllBelow scalar_cmp (map value_of items) (value_of v) =
    data_below (kind_of kind) list from (path_before list from) at (map value_of items) (value_of v) c.requires.behind
    (no_header_front list from c.data_end-at-end.result (at + 1) its.part (omega arith) (omega arith)) c.loop-at.invariant.gathers c.in_ok-take_known.ensures.fits is
    in
    subst (λ (k : ScalarKind). AllBelow (value_cmp (λ (u : Scalar). spelling (kind_of k) (value_of u))) items v) (sym c.loop-at.invariant.codec)
    (below_codec kind items v (λ w i. (c.loop-at.invariant.gathers.each w i).0) c.in_ok-take_known.ensures.fits below)

pub loop-at-preserved : goal.loop-at-preserved
loop-at-preserved c =
    let list = c.args.list.now in
    let from = c.args.from in
    let at = c.loop-at.at in
    let kind = c.args.kind.now in
    let items = c.loop-at.set.items in
    let its = c.data_end-at-end.ensures in
    let Gathers = λ (s : Held ScalarKind Scalar). GathersData (kind_of kind) list from (at + 1) (map value_of s.items) in
    elim c.if-is_datum.branch [
      | then-is_datum+in_ok-take_known+in_ok-push w ↦ (
          let v = w.in_ok-take_known.field-0 in
          let payload : w.rest.result.now ≡ drop 1 (atom_at list at) = w.rest.ensures ∙ ap (drop 1) w.atom.ensures in
          let is = datum_is list at _ (w.if-is_datum.ensures.0 refl) (sym payload ∙ w.in_ok-take_known.ensures.spelled) in
          let set_is = w.set-is ∙ w.in_ok-push.ensures.ok in
          let below : AllBelow scalar_cmp (map value_of items) (value_of v) =
          data_below (kind_of kind) list from (path_before list from) at (map value_of items) (value_of v) c.requires.behind
          (no_header_front list from c.data_end-at-end.result (at + 1) its.part (omega arith) (omega arith)) c.loop-at.invariant.gathers w.in_ok-take_known.ensures.fits is
          in
          record {
            codec = ap (λ (s : Held ScalarKind Scalar). s.codec) set_is ∙ c.loop-at.invariant.codec;
            gathers = subst Gathers (sym set_is) (subst (GathersData (kind_of kind) list from (at + 1)) (sym (map_push value_of items v))
                (data_more (kind_of kind) list from at (map value_of items) (value_of v) c.loop-at.auto.at below c.loop-at.invariant.gathers w.in_ok-take_known.ensures.fits is));
          })
      | else-is_datum w ↦ record {
        codec = ap (λ (s : Held ScalarKind Scalar). s.codec) w.set-is ∙ c.loop-at.invariant.codec;
        gathers = subst Gathers (sym w.set-is) (data_other (kind_of kind) list from at (map value_of items)
            (λ x is. let datum : IsDatumAt list at = (omega (arith, c.loop-at-test.true, its.part.within), (x, is)) in let t = w.if-is_datum.ensures.1 datum in cc) c.loop-at.invariant.gathers);
      }
    ]

pub returns : goal.returns
returns c =
    let list = c.args.list.now in
    let from = c.args.from in
    let kind = c.args.kind.now in
    let vs = map value_of c.loop-at.set.items in
    let its = c.data_end-at-end.ensures in
    let end : c.loop-at.at ≡ c.data_end-at-end.result = omega (arith, c.loop-at-test.false, c.loop-at.auto.at-end its.part.rises) in
    let reads = set_reads (kind_of kind) list from (path_before list from) c.data_end-at-end.result vs c.requires.behind its (subst (λ to. GathersData (kind_of kind) list from to vs) end c.loop-at.invariant.gathers) in
    (ap kind_of c.loop-at.invariant.codec, reads.1, reads.2)
