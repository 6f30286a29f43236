use Rattle.context_model.specs.Paths.{path_before}
use Rattle.bag_walks.proofs.Gathering.{taint_reads}
use Rattle.bag_decode.proofs.Known.{some_datum}
use Rattle.bag_decode.proofs.leaves.has_datum.Goals as goal

pub returns : goal.returns
returns c =
    let list = c.args.list.now in
    let from = c.args.from in
    let to = c.data_end.result in
    taint_reads list (path_before list from) from to c.is_some.result c.requires c.data_end.ensures
    (some_datum list from to c.first_datum.result c.is_some.result c.is_some.ensures c.first_datum.ensures)
