use Rattle.std.proofs.Common.{◌++◌, ◌∙◌, length, take}
use Rattle.std.proofs.KnownBytes.{Appends-trans, Appends-kept}
use Rattle.std.proofs.lemmas.Result.{err_from_is_err_and}
use Rattle.outside.proofs.Pieces.{written_more, written_front}
use Rattle.outside.proofs.transfers.write_all.Goals as goal

pub returns-in_err-count-clause-err : goal.returns-in_err-count-clause-err
returns-in_err-count-clause-err g c =
    let exit = err_from_is_err_and c.from_residual.result c.from_residual.ensures.1 in
    let w = c.loop-rest.invariant.written in
    rw exit.1 (length w.0, rw (written_front c.args.piece.now w.0 c.loop-rest.rest.now w.1) (Appends-kept _ _ _ w.0 w.2 c.in_err-count.ensures.bytes))

pub loop-rest-preserved : goal.loop-rest-preserved
loop-rest-preserved g c =
    let w = c.loop-rest.invariant.written in
    record {
      written = (
        w.0 ++ take c.in_ok-count.count c.loop-rest.rest.now,
        written_more c.args.piece.now w.0 c.loop-rest.rest.now c.in_ok-count.count w.1,
        Appends-trans _ _ _ w.0 _ w.2 c.in_ok-count.ensures.bytes,
      );
      steady = c.in_ok-count.ensures.cause.steady ∙ c.loop-rest.invariant.steady;
    }
