use Rattle.std.proofs.Common.{sym}
use Rattle.bag_model.specs.Scalars.{scalar_cmp}
use Rattle.bag_model.proofs.ScalarOrder.{scalar_total, scalar_exact}
use Rattle.scalar_types.specs.Scalars.{value_of}
use Rattle.write_proof.proofs.BelowCalls.{kept_from}
use Rattle.write_proof.proofs.belows.is_least.Goals as goal

pub returns-in-Some-Some : goal.returns-in-Some-Some
returns-in-Some-Some c =
    rw (c.in-Some-Some.is-0, c.in-Some-Some.is-1, c.is_ge.ensures) (kept_from scalar_cmp scalar_total scalar_exact (value_of c.in-Some-Some.our) (value_of c.in-Some-Some.their) c.order.result (sym c.order.ensures))
