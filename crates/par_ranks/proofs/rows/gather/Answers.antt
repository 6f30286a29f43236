use Rattle.std.proofs.Common.{◌∙◌, length}
use Rattle.std.proofs.lemmas.List.{length_push}
use Rattle.std.proofs.lemmas.Result.{IfOk-at_ok}
use Rattle.std.proofs.lemmas.Iterator.Adapters.{YieldsList-from_vec}
use Rattle.std.proofs.lemmas.Iterator.Consumers.{YieldsList-turn, YieldsList-end}
use Rattle.par_ranks.proofs.Gathering.{all_chunks, read_part, gathered}
use Rattle.par_ranks.proofs.rows.gather.Goals as goal

pub loop-part-preserved : goal.loop-part-preserved
loop-part-preserved g c =
    let parts = c.args.parts.items in
    let given = c.into_iter-part-iterator.ensures.into_iter_gives in
    let yielded = c.loop-part.yielded in
    let turn = YieldsList-turn (YieldsList-from_vec {s = c.into_iter-part-iterator.result} parts given.0 (given.1 ∙ c.args.parts.ok.0)) yielded c.loop-part.part-iterator c.loop-part.yielded_by c.next.result c.next.new.self c.in-Some.part c.in-Some.is c.next.ensures.steps in
    let part = read_part parts (length yielded) c.in-Some.part _ turn.1 (c.requires.each (length yielded) c.in-Some.part turn.0) in
    gathered c.args.run.now.table.now c.args.run.now.graph.now c.args.lists.now c.args.row.now c.args.size (length yielded) _ c.loop-part.made.items c.in_ok-part.part.items c.append.new.self.items
    (length_push yielded c.in-Some.part) c.loop-part.invariant (IfOk-at_ok _ {r = c.in-Some.part} c.in_ok-part.was part) c.in_ok-append.ensures.items

pub returns : goal.returns
returns g c =
    let parts = c.args.parts.items in
    let given = c.into_iter-part-iterator.ensures.into_iter_gives in
    let end = YieldsList-end (YieldsList-from_vec {s = c.into_iter-part-iterator.result} parts given.0 (given.1 ∙ c.args.parts.ok.0)) c.loop-part.yielded c.loop-part.part-iterator c.loop-part.yielded_by c.next.result c.next.new.self c.in-None.is c.next.ensures.steps in
    all_chunks c.args.run.now.table.now c.args.run.now.graph.now c.args.lists.now c.args.row.now c.args.size (length c.loop-part.yielded) c.loop-part.made.items c.requires.size (end.1 ∙ c.requires.as_many) c.loop-part.invariant
