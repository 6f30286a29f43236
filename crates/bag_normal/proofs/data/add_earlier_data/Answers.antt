use Rattle.std.proofs.Common.{Some, arith}
use Rattle.context_model.specs.Paths.{path_before}
use Rattle.bag_model.specs.NormalForm.{GreatestDatum}
use Rattle.bag_walks.specs.Gathering.{IsLastDatum}
use Rattle.bag_normal.specs.Data.{IsDatumBetween}
use Rattle.bag_normal.specs.Known.{GivesWayAt}
use Rattle.bag_normal.proofs.Places.{rises_on, adds_none, adds_same}
use Rattle.bag_normal.proofs.DataParts.{earlier_give_way, none_give_way}
use Rattle.bag_normal.proofs.data.add_earlier_data.Goals as goal

pub returns-in_ok-add_data-clause-rises : goal.returns-in_ok-add_data-clause-rises
returns-in_ok-add_data-clause-rises c =
    let is : IsLastDatum c.args.list.now c.args.from c.data_end-to.result (Some c.in-Some.last) = c.in-Some.ensures in
    rises_on c.add_data.new.gone.items c.in-Some.last c.data_end-to.result (omega (arith, is.1)) c.in_ok-add_data.ensures.rises

pub returns-in_ok-add_data-clause-adds : goal.returns-in_ok-add_data-clause-adds
returns-in_ok-add_data-clause-adds c =
    let list = c.args.list.now in
    let q = path_before list c.args.from in
    let to = c.data_end-to.result in
    let last = c.in-Some.last in
    let is : IsLastDatum list c.args.from to (Some last) = c.in-Some.ensures in
    adds_same (IsDatumBetween list c.args.from last) (GivesWayAt GreatestDatum list q) c.args.gone.now.items c.add_data.new.gone.items
    (earlier_give_way list q c.args.from to c.requires.behind c.data_end-to.ensures last is) c.in_ok-add_data.ensures.adds

pub returns-in_default-clause-rises : goal.returns-in_default-clause-rises
returns-in_default-clause-rises c = rises_on c.args.gone.now.items c.args.from c.data_end-to.result c.data_end-to.ensures.part.rises c.requires.rises

pub returns-in_default-clause-adds : goal.returns-in_default-clause-adds
returns-in_default-clause-adds c =
    let list = c.args.list.now in
    let q = path_before list c.args.from in
    adds_none (GivesWayAt GreatestDatum list q) c.args.gone.now.items
    (none_give_way list q c.args.from c.data_end-to.result c.requires.behind c.data_end-to.ensures GreatestDatum c.in_default.ensures)
