use Rattle.std.proofs.Common.{take, sym, subst}
use Rattle.bag_value.specs.Vals.{plain}
use Rattle.scalar_types.specs.Scalars.{value_of}
use Rattle.write_proof.specs.Together.{IsAtKey, values_of}
use Rattle.write_proof.proofs.Parts.{in_items}
use Rattle.write_proof.proofs.TogetherCalls.{behind, Gathers, gathers_none, gathers_found, gathers_other, gathers_all}
use Rattle.write_proof.proofs.together.values_at.Goals.{in-Some+in_ok-push, in_default}
use Rattle.write_proof.proofs.together.values_at.Goals as goal

pub loop-map-init : goal.loop-map-init
loop-map-init c = let P = IsAtKey (value_of c.args.key.now) in subst (λ found. Gathers P (values_of (take 0 c.args.maps.now)) (values_of found)) (sym c.new-found.ensures.items) (gathers_none P)

pub value_at-requires : goal.value_at-requires
value_at-requires c = c.requires (plain c.map-item.result.now) (in_items behind c.args.maps.now c.loop-map.map-index c.map-item.result c.loop-map-test.true c.map-item.is)

pub loop-map-preserved : goal.loop-map-preserved
loop-map-preserved c =
    let P = IsAtKey (value_of c.args.key.now) in
    let maps = c.args.maps.now in
    elim c.match-value_at.branch [
      | in-Some+in_ok-push w ↦ rw w.found-is
          (gathers_found P maps c.loop-map.map-index c.map-item.result c.loop-map-test.true c.map-item.is c.loop-map.found.items w.push.new.self.items w.in-Some.value w.in-Some.ensures w.in_ok-push.ensures.items c.loop-map.invariant)
      | in_default w ↦ rw w.found-is
          (gathers_other P maps c.loop-map.map-index c.map-item.result c.loop-map-test.true c.map-item.is c.loop-map.found.items w.in_default.ensures c.loop-map.invariant)
    ]

pub returns : goal.returns
returns c = gathers_all (IsAtKey (value_of c.args.key.now)) c.args.maps.now c.loop-map.map-index c.loop-map.found.items c.loop-map-test.false c.loop-map.invariant
