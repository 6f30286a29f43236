use Rattle.std.proofs.Common.{◌≡◌, [], rules}
use Rattle.scalar_types.specs.Fronts.{Begins}
use Rattle.scalar_types.proofs.FrontLaws.{left_over}
use Rattle.scalar_types.proofs.fronts.whole.Goals as goal

pub returns-else-is_empty-clause-none : goal.returns-else-is_empty-clause-none
returns-else-is_empty-clause-none g c =
    let codec = c.args.codec.now in
    let begins : Begins (g.F.Front.fits codec) (g.F.Front.spelling codec) c.args.bytes.now c.in_ok-value.value c.in_ok-value.rest.now = search rules in
    let more : c.in_ok-value.rest.now ≡ [] → ⊥ = search (rules, c.if-is_empty.ensures) in
    λ _. left_over (g.met.F.Front.one_rest codec) c.args.bytes.now c.in_ok-value.value c.in_ok-value.rest.now begins more
