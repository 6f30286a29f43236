use Rattle.std.proofs.Common.{sym, subst, ap, ◌∙◌, ◌≤◌, List, ℕ}
use Rattle.bag_model.specs.Shapes.{Nodes}
use Rattle.bag_model.specs.Tables.{levels}
use Rattle.bdl_load.specs.declared.faults.Fault.{Fault}
use Rattle.bdl_load.specs.Faults.{found, fault_in}
use Rattle.bdl_check.specs.declared.sizes.Size.{Size}
use Rattle.bdl_check.specs.Declarations.{Placed}
use Rattle.bdl_check.specs.Layouts.{IsLaidOut}
use Rattle.bdl_check.specs.Sizes.{HasSize}
use Rattle.bdl_check.specs.Tables.{BagTree, IsUntabled, unfit}
use Rattle.bdl_check.proofs.ChosenBags.{chosen_size, chosen_table, sized_layout, sized_fits, sized_unfit}
use Rattle.bdl_check.proofs.tables.table_of.Goals as goal
use Rattle.field_table.specs.Plain.{nodes_of}
use Rattle.context_model.specs.declared.TheConstants.{LEVELS_MAX}

pub returns-in-Some-excess-clause-fault : goal.returns-in-Some-excess-clause-fault
returns-in-Some-excess-clause-fault c =
    let ds = c.args.declarations.now in
    let bag : BagTree = record { file = c.in-Some.chosen.file.now; spot = c.in-Some.chosen.at; list = c.in-Some.chosen.fields.now } in
    let chosen = sym c.in-Some.ensures.bag in
    let size = subst (λ (s : Size). HasSize ds bag.list s) (sym c.index-size.ensures)
    (chosen_size ds c.in_ok-sizes.sizes.items c.args.bag.now c.in-Some.chosen.number bag c.index-size.result.now chosen c.in-Some.ensures.number
    c.in_ok-sizes.ensures) in
    let code = c.in-Some-excess.code in
    let fault = c.fault_in-in-Some-excess.ensures ∙ ap (λ (file : List ℕ). fault_in file (found bag.spot code)) c.in_ok-copy.ensures in
    subst (λ (f : Fault). IsUntabled ds c.args.root.now c.args.bag.now f) (sym fault)
    (unfit bag chosen (sized_unfit ds bag c.index-size.result.now code size c.in-Some-excess.ensures))

pub lay_out-requires : goal.lay_out-requires
lay_out-requires c =
    let ds = c.args.declarations.now in
    let bag : BagTree = record { file = c.in-Some.chosen.file.now; spot = c.in-Some.chosen.at; list = c.in-Some.chosen.fields.now } in
    let size = subst (λ (s : Size). HasSize ds bag.list s) (sym c.index-size.ensures)
    (chosen_size ds c.in_ok-sizes.sizes.items c.args.bag.now c.in-Some.chosen.number bag c.index-size.result.now (sym c.in-Some.ensures.bag)
    c.in-Some.ensures.number c.in_ok-sizes.ensures) in
    let shallow = sized_layout ds bag.list c.index-size.result.now size c.in_default-excess.ensures in
    record {
      shallow = subst (λ (ds : List Placed). (nodes : Nodes) × IsLaidOut ds bag.list nodes × (levels nodes ≤ LEVELS_MAX))
          (sym c.in_ok-kinds.ensures) shallow;
    }

pub of-requires-3-clause-table : goal.of-requires-3-clause-table
of-requires-3-clause-table c =
    let ds = c.args.declarations.now in
    let bag : BagTree = record { file = c.in-Some.chosen.file.now; spot = c.in-Some.chosen.at; list = c.in-Some.chosen.fields.now } in
    let chosen = sym c.in-Some.ensures.bag in
    let size = subst (λ (s : Size). HasSize ds bag.list s) (sym c.index-size.ensures)
    (chosen_size ds c.in_ok-sizes.sizes.items c.args.bag.now c.in-Some.chosen.number bag c.index-size.result.now chosen c.in-Some.ensures.number
    c.in_ok-sizes.ensures) in
    let laid_out = subst (λ (ds : List Placed). IsLaidOut ds bag.list (nodes_of c.in_ok-fields.fields)) c.in_ok-kinds.ensures
    c.in_ok-fields.ensures.laid_out in
    chosen_table ds c.args.bag.now bag (nodes_of c.in_ok-fields.fields) c.requires.sound c.requires.spelled chosen
    (sized_fits ds bag.list c.index-size.result.now (nodes_of c.in_ok-fields.fields) size c.in_default-excess.ensures laid_out)
