use Rattle.std.proofs.Common.{◌↔◌, IsTrue, sym, subst}
use Rattle.scalar_types.specs.KindViews.{kind_of}
use Rattle.bag_typed.specs.Payloads.{IsPayload}
use Rattle.scalar_types.proofs.KindSpelled.{spelling_told}
use Rattle.bag_typed.proofs.payloads.Payload.fits.Goals as goal

pub returns-in-Scalar : goal.returns-in-Scalar
returns-in-Scalar c =
    let told = spelling_told (kind_of c.in-Scalar.kind.now) c.args.bytes.now in
    subst (λ payload. IsTrue c.spelled.result ↔ IsPayload payload c.args.bytes.now) (sym c.in-Scalar.is)
    (λ t. told.0 (c.spelled.ensures.0 t), λ s. c.spelled.ensures.1 (told.1 s))
