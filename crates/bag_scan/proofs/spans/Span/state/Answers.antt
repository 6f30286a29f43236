use Rattle.std.proofs.Common.{sym, subst}
use Rattle.bag_scan.specs.States.{TellsState}
use Rattle.bag_scan.specs.declared.states.State.TheVariants.{Exact, Partial}
use Rattle.bag_scan.proofs.StateLaws.{tells_unmarked, tells_exact, tells_partial}
use Rattle.bag_scan.proofs.spans.Span.state.Goals as goal

pub returns-in-None : goal.returns-in-None
returns-in-None c = subst (λ marker. TellsState marker c.args.self.now Exact) (sym c.in-None.is) (tells_unmarked c.args.self.now)

pub returns-then-self-place : goal.returns-then-self-place
returns-then-self-place c = subst (λ marker. TellsState marker c.args.self.now Exact) (sym c.in-Some.is) (tells_exact c.in-Some.place c.args.self.now c.if-self-place.true)

pub returns-else-self-place : goal.returns-else-self-place
returns-else-self-place c = subst (λ marker. TellsState marker c.args.self.now Partial) (sym c.in-Some.is) (tells_partial c.in-Some.place c.args.self.now c.if-self-place.false)
