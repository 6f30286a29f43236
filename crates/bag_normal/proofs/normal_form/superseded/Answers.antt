use Rattle.std.proofs.Common.{List, [], subst}
use Rattle.context_model.specs.Atoms.{Atom}
use Rattle.bag_model.specs.NormalForm.{IsSupersededAt}
use Rattle.bag_model.specs.Shapes as model
use Rattle.field_table.specs.Views.{plain_view_of}
use Rattle.bag_normal.specs.Data.{AddsPlaces}
use Rattle.bag_normal.specs.Known.{IsKnownSuperseded}
use Rattle.bag_normal.proofs.Places.{adds_same, whole}
use Rattle.bag_normal.proofs.SlotTurns.{known_all}
use Rattle.bag_normal.proofs.normal_form.superseded.Goals as goal

pub returns-clause-exact : goal.returns-clause-exact
returns-clause-exact c =
    let nodes = c.args.table.now in
    let view = plain_view_of c.args.view.now in
    let list = c.args.context.now in
    let gone = c.add_known_fields.new.gone.items in
    let one = c.list.ensures.list in
    let added : AddsPlaces (IsKnownSuperseded view 0 (model.Shape.Bag nodes) list []) [] gone =
    subst (λ (before : List _). AddsPlaces (IsKnownSuperseded view 0 (model.Shape.Bag nodes) list []) before gone) c.new-gone.ensures.items
    (subst (λ (l : List Atom). AddsPlaces (IsKnownSuperseded view 0 (model.Shape.Bag nodes) l []) c.new-gone.result.items gone) one
    (subst (λ (n : model.Nodes). AddsPlaces (IsKnownSuperseded view 0 (model.Shape.Bag n) c.list.result.now []) c.new-gone.result.items gone) c.nodes.ensures.nodes c.in_ok-add_known_fields.ensures.adds)) in
    whole (IsSupersededAt nodes view list) gone (adds_same (IsKnownSuperseded view 0 (model.Shape.Bag nodes) list []) (IsSupersededAt nodes view list) [] gone (known_all nodes view list) added)
