use Rattle.std.proofs.Common.{[], ◌∷◌}
use Rattle.byte_forward.specs.Calls.{IsTrimOf, IsCutMergeOf}
use Rattle.byte_forward.specs.Contexts.{IsFaultAt}
use Rattle.byte_calls.proofs.Few.{one_cut, writes_weaker}
use Rattle.byte_calls.proofs.calls.join_one.Goals as goal

pub returns : goal.returns
returns c =
    let form = c.args.form in
    let budget = c.args.budget in
    let bytes = c.args.context.now in
    let inputs = bytes ∷ [] in
    writes_weaker form (IsTrimOf form budget bytes) (IsCutMergeOf form budget inputs) (IsFaultAt inputs) (IsFaultAt inputs) c.args.room.now c.trim_bytes.new.room c.trim_bytes.result
    (one_cut form budget bytes) (λ place offset code fault. fault) c.trim_bytes.ensures
