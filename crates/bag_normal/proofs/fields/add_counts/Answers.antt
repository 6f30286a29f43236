use Rattle.std.proofs.Common.{◌+◌, arith}
use Rattle.context_model.specs.Paths.{path_before}
use Rattle.bag_model.specs.NormalForm.{GreatestDatum}
use Rattle.bag_walks.proofs.Inside.{no_header_stays}
use Rattle.bag_scan.proofs.KeyTurns.{key_turn}
use Rattle.bag_normal.specs.Known.{GivesWayAt}
use Rattle.bag_normal.proofs.Places.{rises_on}
use Rattle.bag_normal.proofs.Below.{key_gives_way}
use Rattle.bag_normal.proofs.Keys.{keys_more, keys_all}
use Rattle.bag_normal.proofs.fields.add_counts.Goals as goal

pub add_earlier_data-requires : goal.add_earlier_data-requires
add_earlier_data-requires c =
    let list = c.args.list.now in
    let turn = key_turn list (path_before list c.args.from) c.args.from c.args.level c.writers.place c.requires.level c.requires.room c.requires.behind c.writers.invariant.keys.stays
    c.in-Ok.field-0-0.now c.in-Ok.start c.in-Ok.ensures.found in
    record {
      behind = turn.starts;
      rises = rises_on c.writers.gone.items c.writers.place c.in-Ok.start (omega (arith, turn.found.next, turn.found.before.stays.rises)) c.writers.invariant.rises;
    }

pub writers-preserved : goal.writers-preserved
writers-preserved c =
    let list = c.args.list.now in
    let turn = key_turn list (path_before list c.args.from) c.args.from c.args.level c.writers.place c.requires.level c.requires.room c.requires.behind c.writers.invariant.keys.stays
    c.in-Ok.field-0-0.now c.in-Ok.start c.in-Ok.ensures.found in
    let next = c.in_ok-place-in-Ok.place in
    record {
      rises = c.in_ok-place-in-Ok.ensures.rises;
      keys = keys_more (GivesWayAt GreatestDatum list) list (path_before list c.args.from) c.args.level c.args.from c.writers.place
          c.requires.level c.requires.room c.requires.behind c.args.gone.now.items c.writers.gone.items c.writers.invariant.keys c.in-Ok.field-0-0.now c.in-Ok.start turn
          next (no_header_stays list (c.args.level + 1) c.in-Ok.start next c.in_ok-place-in-Ok.ensures.part.part) c.add_earlier_data.new.gone.items c.in_ok-place-in-Ok.ensures.adds;
    }

pub returns-in-Err-clause-rises : goal.returns-in-Err-clause-rises
returns-in-Err-clause-rises c = rises_on c.writers.gone.items c.writers.place c.in-Err.stop c.in-Err.ensures.none.segment.part.rises c.writers.invariant.rises

pub returns-in-Err-clause-adds : goal.returns-in-Err-clause-adds
returns-in-Err-clause-adds c =
    let list = c.args.list.now in
    let q = path_before list c.args.from in
    keys_all (GivesWayAt GreatestDatum list) list q c.args.level c.args.from c.writers.place
    c.requires.level c.requires.room c.requires.behind c.args.gone.now.items c.writers.gone.items c.writers.invariant.keys c.in-Err.stop c.in-Err.ensures.none
    (λ key p w. key_gives_way GreatestDatum list q key p w)
