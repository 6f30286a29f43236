use Rattle.std.proofs.KnownBytes.{Keeps-refl, Keeps-trans}
use Rattle.baggage.proofs.Interrupted.{kept_then_write}
use Rattle.baggage.proofs.adapters.write_uninterrupted.Goals as goal

pub loop-init : goal.loop-init
loop-init g c = Keeps-refl _

pub loop-preserved : goal.loop-preserved
loop-preserved g c = Keeps-trans _ _ _ c.loop.invariant c.in-Err.ensures.bytes

pub returns-in_default-clause-bytes : goal.returns-in_default-clause-bytes
returns-in_default-clause-bytes g c = Keeps-trans _ _ _ c.loop.invariant c.in-Err.ensures.bytes

pub returns-clause-bytes : goal.returns-clause-bytes
returns-clause-bytes g c = kept_then_write _ _ _ _ _ c.loop.invariant c.write-2.ensures.bytes
