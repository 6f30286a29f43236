use Rattle.bag_model.specs.Shapes.{Shape}
use Rattle.bag_model.specs.Values.{bottom}
use Rattle.bag_value.specs.Vals.{plain}
use Rattle.write_proof.specs.Contributions.{contributed}
use Rattle.write_proof.proofs.BelowCalls.{alike_of, no_answer}
use Rattle.write_proof.proofs.ContributionCalls.{same_contributes, one_shape, more_answer, no_more}
use Rattle.write_proof.proofs.whole_rules.contributes_more.Goals as goal

pub is_below-requires-clause-one : goal.is_below-requires-clause-one
is_below-requires-clause-one c =
    let table = c.args.table.now in
    let graph = c.args.graph.now in
    let own = plain c.in-Some.value.now in
    one_shape table graph c.args.slot c.known.ensures.table c.known.ensures.graph c.requires.table c.requires.slot c.args.step own (plain c.args.joined.now) c.requires.shape
    (same_contributes table graph c.args.slot c.args.step (λ (shape : Shape). contributed shape c.in_ok-own.own) (λ (shape : Shape). own) c.in-Some.ensures c.in_ok-own.ensures)

pub is_below-requires-clause-alike : goal.is_below-requires-clause-alike
is_below-requires-clause-alike c =
    let table = c.args.table.now in
    let graph = c.args.graph.now in
    let own = plain c.in-Some.value.now in
    alike_of own (plain c.args.joined.now)
    (one_shape table graph c.args.slot c.known.ensures.table c.known.ensures.graph c.requires.table c.requires.slot c.args.step own (plain c.args.joined.now) c.requires.shape
    (same_contributes table graph c.args.slot c.args.step (λ (shape : Shape). contributed shape c.in_ok-own.own) (λ (shape : Shape). own) c.in-Some.ensures c.in_ok-own.ensures))

pub returns-in-Some : goal.returns-in-Some
returns-in-Some c =
    let table = c.args.table.now in
    let graph = c.args.graph.now in
    let own = plain c.in-Some.value.now in
    more_answer table graph c.args.slot c.known.ensures.table c.known.ensures.graph c.requires.table c.args.step own (plain c.args.joined.now)
    (same_contributes table graph c.args.slot c.args.step (λ (shape : Shape). contributed shape c.in_ok-own.own) (λ (shape : Shape). own) c.in-Some.ensures c.in_ok-own.ensures) c.is_below.result c.is_below.ensures

pub returns : goal.returns
returns c = λ at there.
    let table = c.args.table.now in
    let graph = c.args.graph.now in
    no_answer (no_more table graph c.args.slot c.known.ensures.table c.known.ensures.graph c.requires.table c.args.step (plain c.args.joined.now) c.requires.shape
    (same_contributes table graph c.args.slot c.args.step (λ (shape : Shape). contributed shape c.in_ok-own.own) bottom c.in-None.ensures c.in_ok-own.ensures) at there)
