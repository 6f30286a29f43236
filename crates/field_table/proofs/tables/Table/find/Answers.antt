use Rattle.std.proofs.Common.{◌≡◌, ℕ, Option, Some, None, sym, ◌∙◌, ap, subst}
use Rattle.bag_model.specs.Shapes as model
use Rattle.bag_model.specs.Slots.{FindsSlot}
use Rattle.bag_model.proofs.SlotPaths.{finds_slot, finds_no_slot}
use Rattle.field_table.proofs.PathFinding.{bag_no_slot}
use Rattle.field_table.specs.Tables.{plain_shape}
use Rattle.field_table.specs.Plain.{nodes_of, shape_of}
use Rattle.field_table.proofs.Held.{shape_bag, no_bag}
use Rattle.field_table.proofs.Found.{ready}
use Rattle.field_table.proofs.tables.Table.find.Goals as goal

pub find-requires : goal.find-requires
find-requires c = record { ready = ready c.self.inside.nodes c.self.invariant.0 c.self.invariant.1 c.self.invariant.2 }

pub returns-in_err-slot : goal.returns-in_err-slot
returns-in_err-slot c =
    let nodes = nodes_of c.self.inside.nodes in
    subst (λ (o : Option ℕ). FindsSlot c.args.self.now c.args.dotted.now o) (sym c.from_residual.ensures)
    (subst (λ (n : model.Nodes). FindsSlot n c.args.dotted.now None) c.self.view_is (finds_no_slot nodes c.args.dotted.now c.in_err-slot.ensures.found))

pub returns-in-Bag : goal.returns-in-Bag
returns-in-Bag c =
    let nodes = nodes_of c.self.inside.nodes in
    let shape = shape_of c.in_ok-slot.shape.now in
    let bag : shape ≡ model.Shape.Bag (nodes_of c.in-Bag.field-0) = ap shape_of c.in-Bag.is ∙ ap plain_shape (shape_bag c.in-Bag.field-0) in
    subst (λ (n : model.Nodes). FindsSlot n c.args.dotted.now None) c.self.view_is
    (bag_no_slot nodes c.args.dotted.now c.in_ok-slot.slot shape (nodes_of c.in-Bag.field-0) bag c.in_ok-slot.ensures.only)

pub returns-in_default : goal.returns-in_default
returns-in_default c =
    let nodes = nodes_of c.self.inside.nodes in
    let shape = shape_of c.in_ok-slot.shape.now in
    subst (λ (n : model.Nodes). FindsSlot n c.args.dotted.now (Some c.in_ok-slot.slot)) c.self.view_is
    (finds_slot nodes c.args.dotted.now c.in_ok-slot.slot shape (no_bag c.in_ok-slot.shape.now c.in_default.not-Bag) c.in_ok-slot.ensures.found)
