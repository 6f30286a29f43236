use Rattle.std.proofs.Common.{◌≡◌, ◌<◌, [], length, Some, None, sym, ap, ◌∙◌, subst, arith}
use Rattle.std.proofs.lemmas.List.{nil_from_length}
use Rattle.std.proofs.lemmas.Bool.Decides.{nat_tests}
use Rattle.context_model.specs.Paths.{atom_at}
use Rattle.bag_walks.proofs.Stops.{atom_there}
use Rattle.bag_scan.specs.States.{IsFirstMarker}
use Rattle.bag_scan.proofs.StateLaws.{no_marker_more, no_marker}
use Rattle.bag_scan.proofs.states.first_marker.Goals as goal

pub returns-then-is_empty-clause-marker : goal.returns-then-is_empty-clause-marker
returns-then-is_empty-clause-marker c =
    let list = c.list-list.result.now in
    let within : c.loop-at.at < length list = omega (arith, c.loop-at-test.true, c.len-at-end.ensures.len) in
    let none : length c.atom.result.now ≡ 0 = grind (arith, nat_tests) in
    let empty : atom_at list c.loop-at.at ≡ [] = sym c.atom.ensures ∙ nil_from_length c.atom.result.now none in
    subst (λ l. IsFirstMarker l (Some c.loop-at.at)) c.list-list.ensures.list (within, atom_there list c.loop-at.at within ∙ ap Some empty, c.loop-at.invariant)

pub loop-at-preserved : goal.loop-at-preserved
loop-at-preserved c =
    let list = c.list-list.result.now in
    no_marker_more list c.loop-at.at (omega (arith, c.loop-at-test.true, c.len-at-end.ensures.len))
    (λ empty. let none : length c.atom.result.now ≡ 0 = ap length (c.atom.ensures ∙ empty) in grind (arith, nat_tests)) c.loop-at.invariant

pub returns-clause-marker : goal.returns-clause-marker
returns-clause-marker c =
    let list = c.list-list.result.now in
    subst (λ l. IsFirstMarker l None) c.list-list.ensures.list (no_marker list c.loop-at.at (omega (arith, c.loop-at-test.false, c.len-at-end.ensures.len)) c.loop-at.invariant)
