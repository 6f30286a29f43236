use Rattle.std.proofs.Common.{get_or}
use Rattle.std.proofs.lemmas.Option.{slice_get-get_or}
use Rattle.place_calls.proofs.Ways.{way_found, way_missing}
use Rattle.place_calls.proofs.chosen.find_path.Goals as goal

pub returns-in-Err-clause-missing : goal.returns-in-Err-clause-missing
returns-in-Err-clause-missing c =
    let numbers = c.args.numbers.now in
    let level = c.loop-level.level in
    way_missing c.args.list.now numbers level c.loop-level.place (get_or numbers level 0) c.requires.few c.loop-level-test.true (slice_get-get_or numbers level 0 c.loop-level-test.true)
    c.loop-level.invariant c.in-Err.stop c.in-Err.ensures.missing

pub loop-level-preserved : goal.loop-level-preserved
loop-level-preserved c =
    let numbers = c.args.numbers.now in
    let level = c.loop-level.level in
    way_found c.args.list.now numbers level c.loop-level.place (get_or numbers level 0) c.requires.few c.loop-level-test.true (slice_get-get_or numbers level 0 c.loop-level-test.true)
    c.loop-level.invariant c.in-Ok.behind c.in-Ok.ensures.found
