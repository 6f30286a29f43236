use Rattle.std.proofs.Common.{[], ◌∷◌, arith}
use Rattle.byte_forward.specs.Contexts.{IsFaultAt}
use Rattle.byte_forward.proofs.Made.{merge_whole}
use Rattle.byte_forward.proofs.calls.merge_bytes.Goals as goal

pub returns : goal.returns
returns c =
    let inputs = c.args.first.now ∷ c.args.second.now ∷ [] in
    merge_whole c.args.form inputs (IsFaultAt inputs) c.args.room.now c.forward_bytes.new.room c.forward_bytes.result (omega arith) c.forward_bytes.ensures
