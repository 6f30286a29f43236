use Rattle.std.proofs.Common.{◌<◌, ◌≤◌, refl, ap, length, arith}
use Rattle.context_model.specs.Framing.{written_in, size_of}
use Rattle.context_model.proofs.FramingLaws.{size_by_frames}
use Rattle.overflow_trim.proofs.Overs.{head_len-le}
use Rattle.overflow_trim.proofs.fits.Goals as goal

-- The frames alone are more.
pub returns-then-budget-least : goal.returns-then-budget-least
returns-then-budget-least c =
    let own = size_by_frames c.args.form c.args.list.now c.len-count.ensures.atoms in
    let over : c.args.budget < size_of c.args.form c.args.list.now = omega (arith, ap length c.in-Some.ensures) in
    (λ none. absurd (cc none), λ fit. absurd (omega arith))

-- The frames with the longer head aren't.
pub returns-then-least-head_len : goal.returns-then-least-head_len
returns-then-least-head_len c =
    let own = size_by_frames c.args.form c.args.list.now c.len-count.ensures.atoms in
    let few = head_len-le (written_in c.args.form c.args.list.now) in
    let fit : size_of c.args.form c.args.list.now ≤ c.args.budget = omega (arith, ap length c.in-Some.ensures, c.head_len.ensures) in
    (λ all. fit, λ within. refl)
