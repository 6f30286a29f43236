use Rattle.std.proofs.Common.{◌≡◌, Some, refl, sym, ◌∙◌, ap}
use Rattle.graph_text.specs.Names.{service_at}
use Rattle.graph_text.proofs.Members.{in_get, each_more}
use Rattle.graph_text.proofs.reader.Reader.common_service.Goals as goal

pub service_of-service-requires : goal.service_of-service-requires
service_of-service-requires c = c.requires.earlier _ (in_get c.args.parents.now 0 0 c.requires.some)

pub service_of-requires : goal.service_of-requires
service_of-requires c = c.requires.earlier _ (in_get c.args.parents.now c.loop-parent.parent-index 0 c.loop-parent-test.true)

pub returns-then-service_of-service-clause-err : goal.returns-then-service_of-service-clause-err
returns-then-service_of-service-clause-err c = (
  refl,
  (
    _,
    _,
    in_get c.args.parents.now 0 0 c.requires.some,
    in_get c.args.parents.now c.loop-parent.parent-index 0 c.loop-parent-test.true,
    λ same. c.if-service_of-service.true (
        let some : Some c.service_of.result ≡ Some c.service_of-service.result = sym c.service_of.ensures.at ∙ sym same ∙ c.service_of-service.ensures.at in cc some),
  ),
)

pub loop-parent-preserved : goal.loop-parent-preserved
loop-parent-preserved c =
    each_more (λ n. service_at c.args.self.now n ≡ Some c.service_of-service.result) c.args.parents.now c.loop-parent.parent-index 0 c.loop-parent-test.true c.loop-parent.invariant
    (c.service_of.ensures.at ∙ ap Some c.if-service_of-service.false)
