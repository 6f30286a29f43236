use Rattle.std.proofs.Common.{◌≡◌, false, take, sym, ◌∙◌, arith}
use Rattle.context_model.specs.Framing.{has_long}
use Rattle.context_model.proofs.FramingLaws.{long-front}
use Rattle.overflow_trim.proofs.Overs.{narrow, written_narrow}
use Rattle.overflow_trim.proofs.frames_room.Goals as goal

pub returns-in-One-clause-form : goal.returns-in-One-clause-form
returns-in-One-clause-form c = λ n light. (
    let front = take n c.args.list.now in
    written_narrow c.args.form front (narrow front (omega (arith, light)))
    )

pub returns-in-One-2-clause-form : goal.returns-in-One-2-clause-form
returns-in-One-2-clause-form c = λ n light. (
    let list = c.args.list.now in
    let none : has_long list ≡ false = sym c.is_long.ensures ∙ c.if-not-is_long.true in
    written_narrow c.args.form (take n list) (long-front n list none)
    )

pub returns-in-One-3-clause-form : goal.returns-in-One-3-clause-form
returns-in-One-3-clause-form c = λ n light. (
    let front = take n c.args.list.now in
    written_narrow c.args.form front (narrow front light)
    )
