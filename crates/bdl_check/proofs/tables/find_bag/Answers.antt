use Rattle.std.proofs.Common.{Option, sym, ap, ◌∙◌}
use Rattle.std.specs.Option.{option_map, option_and_then}
use Rattle.bdl_check.specs.declared.tables.ChosenBag.{ChosenBag}
use Rattle.bdl_check.specs.Declarations.{Placed}
use Rattle.bdl_check.specs.Tables.{bag_in}
use Rattle.bdl_check.proofs.ChosenBags.{no_bag, bag_at}
use Rattle.bdl_check.proofs.tables.find_bag.Goals as goal

pub returns-in_err-number-clause-bag : goal.returns-in_err-number-clause-bag
returns-in_err-number-clause-bag c =
    let nothing = ap (λ (found : Option ChosenBag). option_map
    (λ (bag : ChosenBag). record { file = bag.file.now; spot = bag.at; list = bag.fields.now }) found) c.from_residual.ensures in
    nothing ∙ sym (no_bag c.args.declarations.now c.args.name.now (sym c.in_err-number.ensures))

pub returns-in_err-declaration-clause-bag : goal.returns-in_err-declaration-clause-bag
returns-in_err-declaration-clause-bag c =
    let nothing = ap (λ (found : Option ChosenBag). option_map
    (λ (bag : ChosenBag). record { file = bag.file.now; spot = bag.at; list = bag.fields.now }) found)
    c.from_residual-in_err-declaration.ensures in
    let there = bag_at c.args.declarations.now c.args.name.now c.in_ok-number.number (sym c.in_ok-number.ensures) in
    nothing ∙ sym (there ∙ ap (option_and_then (λ (d : Placed). bag_in d.file d.decl)) (sym c.in_err-declaration.ensures))

pub returns-in-Bag-clause-bag : goal.returns-in-Bag-clause-bag
returns-in-Bag-clause-bag c =
    let there = bag_at c.args.declarations.now c.args.name.now c.in_ok-number.number (sym c.in_ok-number.ensures) in
    sym (there ∙ ap (option_and_then (λ (d : Placed). bag_in d.file d.decl)) (sym c.in_ok-declaration.ensures)
    ∙ ap (bag_in c.in_ok-declaration.declaration.file.now) c.in-Bag.is)

pub returns-in-Struct-clause-bag : goal.returns-in-Struct-clause-bag
returns-in-Struct-clause-bag c =
    let there = bag_at c.args.declarations.now c.args.name.now c.in_ok-number.number (sym c.in_ok-number.ensures) in
    sym (there ∙ ap (option_and_then (λ (d : Placed). bag_in d.file d.decl)) (sym c.in_ok-declaration.ensures)
    ∙ ap (bag_in c.in_ok-declaration.declaration.file.now) c.in-Struct.is)
