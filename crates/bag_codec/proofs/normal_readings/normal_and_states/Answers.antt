use Rattle.std.proofs.Common.{◌≡◌, ◌↔◌, List, sym, subst}
use Rattle.context_model.specs.Atoms.{Atom}
use Rattle.context_model.specs.Ended.{IsEnded, field_path}
use Rattle.bag_model.specs.NormalForm.{IsNormalOf}
use Rattle.bag_model.specs.Slots.{slots_of}
use Rattle.bag_model.proofs.SlotsBelow.{get_in}
use Rattle.bag_scan.specs.declared.states.State.TheVariants.{Exact}
use Rattle.field_table.specs.Views.{plain_view_of}
use Rattle.bag_codec.proofs.Said.{slot_at, states_one}
use Rattle.bag_codec.proofs.normal_readings.normal_and_states.Goals as goal

pub returns-clause-one : goal.returns-clause-one
returns-clause-one c =
    let nodes = c.args.table.now in
    let view = plain_view_of c.args.view.now in
    let list = c.args.context.now in
    let is = subst (λ (l : List Atom). IsNormalOf nodes view l c.in_ok-fewer.fewer) c.in_ok-copy.ensures c.in_ok-fewer.ensures in
    let keeps = c.normal_form_keeps.ensures.lists nodes view list c.in_ok-fewer.fewer c.nodes.ensures.table c.list.ensures.well_formed is in
    let at = slot_at (slots_of nodes) c.args.slot c.requires in
    let kept = c.state_of-kept.ensures at.0 at.1 in
    let own = c.state_of-own.ensures at.0 at.1 in
    let ended = keeps.ended at.0 (get_in (slots_of nodes) c.args.slot at.0 at.1) in
    states_one c.state_of-kept.result c.state_of-own.result ((λ e. own.1 (ended.0 (kept.0 e))), λ e. kept.1 (ended.1 (own.0 e)))

pub returns-clause-kept : goal.returns-clause-kept
returns-clause-kept c =
    let nodes = c.args.table.now in
    let view = plain_view_of c.args.view.now in
    let list = c.args.context.now in
    let is = subst (λ (l : List Atom). IsNormalOf nodes view l c.in_ok-fewer.fewer) c.in_ok-copy.ensures c.in_ok-fewer.ensures in
    let keeps = c.normal_form_keeps.ensures.lists nodes view list c.in_ok-fewer.fewer c.nodes.ensures.table c.list.ensures.well_formed is in
    λ normal at m here.
    subst (λ list. (c.state_of-kept.result ≡ Exact) ↔ IsEnded list (field_path at.numbers)) (sym (keeps.one normal m)) (c.state_of-kept.ensures at here)
