use Rattle.std.proofs.Common.{sym, subst}
use Rattle.context_model.specs.Paths.{path_before}
use Rattle.bag_model.specs.Readings.{PathsOf, datum_path}
use Rattle.bag_walks.specs.Gathering.{GathersCounts}
use Rattle.bag_scan.proofs.KeyTurns.{key_turn}
use Rattle.bag_decode.proofs.KeyTurns.{writer_below, counts_turn, counts_end}
use Rattle.bag_decode.proofs.leaves.counts_of.Goals as goal

pub last_count-requires : goal.last_count-requires
last_count-requires c =
    let list = c.args.list.now in
    let q = path_before list c.args.from in
    let writer = c.in-Ok.writer.now in
    let turn = key_turn list q c.args.from c.args.level c.keys.place c.requires.level c.requires.room c.requires.behind c.keys.invariant.stays writer c.in-Ok.start c.in-Ok.ensures.found in
    record {
      behind = turn.starts;
      counts = λ payload i. c.requires.typed writer payload turn.stands (subst (λ p. PathsOf list (datum_path p payload)) turn.below.path i);
    }

pub push-requires : goal.push-requires
push-requires c =
    let list = c.args.list.now in
    let q = path_before list c.args.from in
    let writer = c.in-Ok.writer.now in
    let turn = key_turn list q c.args.from c.args.level c.keys.place c.requires.level c.requires.room c.requires.behind c.keys.invariant.stays writer c.in-Ok.start c.in-Ok.ensures.found in
    writer_below list q c.args.level c.args.from c.keys.place c.requires.level c.requires.room c.requires.behind writer c.in-Ok.start turn c.keys.counts c.keys.invariant.gathers

pub keys-preserved : goal.keys-preserved
keys-preserved c =
    let list = c.args.list.now in
    let q = path_before list c.args.from in
    let writer = c.in-Ok.writer.now in
    let turn = key_turn list q c.args.from c.args.level c.keys.place c.requires.level c.requires.room c.requires.behind c.keys.invariant.stays writer c.in-Ok.start c.in-Ok.ensures.found in
    record {
      stays = turn.over;
      gathers = subst (GathersCounts list q c.args.from c.in-Ok.start) (sym c.in_ok-push-in-Ok.ensures.ok)
          (counts_turn list q c.args.level c.args.from c.keys.place c.requires.level c.requires.room c.requires.behind writer c.in-Ok.start turn
          c.keys.counts c.keys.invariant.gathers c.last_count.result c.last_count.ensures);
    }

pub returns-in-Err-clause-value : goal.returns-in-Err-clause-value
returns-in-Err-clause-value c =
    counts_end c.args.list.now (path_before c.args.list.now c.args.from) c.args.level c.args.from c.keys.place c.requires.level c.requires.room c.requires.behind
    c.keys.invariant.stays c.in-Err.end c.in-Err.ensures.none c.keys.counts c.keys.invariant.gathers
