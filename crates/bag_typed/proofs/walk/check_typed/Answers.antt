use Rattle.std.proofs.Common.{[], subst}
use Rattle.bag_model.specs.Typed.{SomeMisspells}
use Rattle.bag_typed.specs.Walk.{HasNone}
use Rattle.bag_typed.proofs.Fields.{typed_from}
use Rattle.bag_typed.proofs.walk.check_typed.Goals as goal

pub returns-clause-typed : goal.returns-clause-typed
returns-clause-typed c =
    typed_from c.args.table.now c.args.context.now
    (subst (λ list. HasNone list (SomeMisspells c.args.table.now [])) c.list.ensures.list
    (subst (λ nodes. HasNone c.list.result.now (SomeMisspells nodes [])) c.nodes.ensures.nodes c.in_ok-check_fields.ensures.typed))
