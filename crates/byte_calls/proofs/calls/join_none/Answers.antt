use Rattle.std.proofs.Common.{[], ◌∷◌}
use Rattle.byte_forward.specs.Calls.{IsTrimOf, IsCutMergeOf}
use Rattle.byte_forward.specs.Contexts.{IsFaultAt}
use Rattle.byte_calls.proofs.Few.{none_cut, none_wrong, writes_weaker}
use Rattle.byte_calls.proofs.calls.join_none.Goals as goal

pub returns : goal.returns
returns c =
    let form = c.args.form in
    let budget = c.args.budget in
    writes_weaker form (IsTrimOf form budget []) (IsCutMergeOf form budget []) (IsFaultAt ([] ∷ [])) (IsFaultAt []) c.args.room.now c.trim_bytes.new.room c.trim_bytes.result
    (none_cut form budget) none_wrong c.trim_bytes.ensures
