use Rattle.std.proofs.Common.{◌≡◌, drop, sym, ap, ◌∙◌, subst, arith}
use Rattle.context_model.specs.Paths.{atom_at, path_before}
use Rattle.bag_model.specs.Typed.{IsCount}
use Rattle.bag_walks.proofs.Gathering.{no_count_reads, last_count_reads}
use Rattle.bag_decode.proofs.Known.{datum_is, datum_stands}
use Rattle.bag_decode.proofs.leaves.last_count.Goals as goal

pub known_count-requires : goal.known_count-requires
known_count-requires c =
    let list = c.args.list.now in
    let from = c.args.from in
    let at = c.in-Some.at in
    let last = c.in-Some.ensures in
    let payload : c.rest.result.now ≡ drop 1 (atom_at list at) = c.rest.ensures ∙ ap (drop 1) c.atom.ensures in
    subst IsCount (sym payload)
    (c.requires.counts (drop 1 (atom_at list at)) (datum_stands list (path_before list from) from c.data_end.result at c.requires.behind c.data_end.ensures last.0 last.1 last.2))

pub returns-in-Some : goal.returns-in-Some
returns-in-Some c =
    let list = c.args.list.now in
    let from = c.args.from in
    let at = c.in-Some.at in
    let payload : c.rest.result.now ≡ drop 1 (atom_at list at) = c.rest.ensures ∙ ap (drop 1) c.atom.ensures in
    last_count_reads list (path_before list from) from c.data_end.result c.requires.behind c.data_end.ensures at c.known_count.result c.in-Some.ensures
    (omega arith) (datum_is list at _ (c.in-Some.ensures).2 (sym payload ∙ c.known_count.ensures))

pub returns-in-None : goal.returns-in-None
returns-in-None c =
    let list = c.args.list.now in
    no_count_reads list (path_before list c.args.from) c.args.from c.data_end.result c.requires.behind c.data_end.ensures c.in-None.ensures
