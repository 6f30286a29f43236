use Rattle.std.proofs.Common.{◌+◌, Some, arith}
use Rattle.context_model.specs.Paths.{path_before}
use Rattle.bag_model.specs.NormalForm.{LeastDatum}
use Rattle.bag_walks.specs.Gathering.{IsFirstDatum}
use Rattle.bag_normal.specs.Data.{IsDatumBetween}
use Rattle.bag_normal.specs.Known.{GivesWayAt}
use Rattle.bag_normal.proofs.Places.{rises_on, adds_none, adds_same}
use Rattle.bag_normal.proofs.DataParts.{later_give_way, none_give_way}
use Rattle.bag_normal.proofs.data.add_later_data.Goals as goal

pub add_data-requires-clause-rises : goal.add_data-requires-clause-rises
add_data-requires-clause-rises c = rises_on c.args.gone.now.items c.args.from (c.in-Some.first + 1) (omega (arith, c.in-Some.ensures.0)) c.requires.rises

pub returns-in_ok-add_data-clause-adds : goal.returns-in_ok-add_data-clause-adds
returns-in_ok-add_data-clause-adds c =
    let list = c.args.list.now in
    let q = path_before list c.args.from in
    let to = c.data_end-to.result in
    let first = c.in-Some.first in
    let is : IsFirstDatum list c.args.from to (Some first) = c.in-Some.ensures in
    adds_same (IsDatumBetween list (first + 1) to) (GivesWayAt LeastDatum list q) c.args.gone.now.items c.add_data.new.gone.items
    (later_give_way list q c.args.from to c.requires.behind c.data_end-to.ensures first is) c.in_ok-add_data.ensures.adds

pub returns-in_default-clause-rises : goal.returns-in_default-clause-rises
returns-in_default-clause-rises c = rises_on c.args.gone.now.items c.args.from c.data_end-to.result c.data_end-to.ensures.part.rises c.requires.rises

pub returns-in_default-clause-adds : goal.returns-in_default-clause-adds
returns-in_default-clause-adds c =
    let list = c.args.list.now in
    let q = path_before list c.args.from in
    adds_none (GivesWayAt LeastDatum list q) c.args.gone.now.items
    (none_give_way list q c.args.from c.data_end-to.result c.requires.behind c.data_end-to.ensures LeastDatum c.in_default.ensures)
