use Rattle.std.proofs.Common.{◌≡◌, ◌++◌, length, get_or, ◌/◌, sym, ◌∙◌, subst, arith}
use Rattle.context_model.specs.Orders.{IsIn}
use Rattle.bag_model.specs.Values.{bottom}
use Rattle.bag_value.specs.declared.vals.Val.{Val}
use Rattle.bag_value.specs.Vals.{plain}
use Rattle.field_table.specs.Plain.{shape_of}
use Rattle.write_proof.specs.Contributions.{ContributesAt}
use Rattle.write_proof.specs.Joins.{IsJoinAt}
use Rattle.write_proof.proofs.ContributionCalls.{ok_so, none_joined, one_joined, both_alike, both_joined, no_steps, one_step_alone, first_in, front_in, back_in, both_parts}
use Rattle.write_proof.proofs.joins.+join_steps.Goals as goal

pub contributed_value-requires-clause-step : goal.contributed_value-requires-clause-step
contributed_value-requires-clause-step t c = c.requires.steps (get_or c.args.steps.now 0 0) (first_in c.args.steps.now c.in-len1.len_at_least)

pub join_steps-requires : goal.join_steps-requires
join_steps-requires t c =
    let steps = c.args.steps.now in (
      omega (arith, c.decreases, c.split_at.ensures.front_len, c.in_default.len_at_least),
      (c.requires.table, (c.requires.slot, λ step i. c.requires.steps step (front_in (length steps / 2) steps step (subst (λ l. IsIn step l) c.split_at.ensures.front i)))),
    )

pub join_steps-requires-in_default : goal.join_steps-requires-in_default
join_steps-requires-in_default t c =
    let steps = c.args.steps.now in (
      omega (arith, c.decreases, c.split_at.ensures.back_len, c.in_default.len_at_least),
      (c.requires.table, (c.requires.slot, λ step i. c.requires.steps step (back_in (length steps / 2) steps step (subst (λ l. IsIn step l) c.split_at.ensures.back i)))),
    )

pub join-requires : goal.join-requires
join-requires t c =
    both_alike c.args.table.now c.args.graph.now c.args.slot c.known.ensures.table c.known.ensures.graph c.requires.table c.requires.slot c.split_at.result.0.now c.split_at.result.1.now
    (plain c.in_ok-joined-in_default.joined) (plain c.in_ok-other-in_default.other) c.in_ok-joined-in_default.ensures c.in_ok-other-in_default.ensures

pub returns-in-empty : goal.returns-in-empty
returns-in-empty t c =
    let table = c.args.table.now in
    let graph = c.args.graph.now in
    let shape = shape_of c.shape.result.now in
    ok_so (λ (value : Val). plain value ≡ bottom shape) (λ (value : Val). IsJoinAt table graph c.args.slot c.args.steps.now (plain value)) c.bottom_of.result
    (λ value is. subst (λ l. IsJoinAt table graph c.args.slot l (plain value)) (sym (no_steps c.args.steps.now c.in-empty.len_below))
    (none_joined table graph c.args.slot c.known.ensures.table c.known.ensures.graph c.requires.table shape (plain value) c.shape.ensures is))
    c.bottom_of.ensures

pub returns-in-len1 : goal.returns-in-len1
returns-in-len1 t c =
    let table = c.args.table.now in
    let graph = c.args.graph.now in
    let step = get_or c.args.steps.now 0 0 in
    ok_so (λ (value : Val). ContributesAt table graph c.args.slot step (λ _. plain value)) (λ (value : Val). IsJoinAt table graph c.args.slot c.args.steps.now (plain value)) c.contributed_value.result
    (λ value own. subst (λ l. IsJoinAt table graph c.args.slot l (plain value)) (sym (one_step_alone c.args.steps.now c.in-len1.len_at_least c.in-len1.len_below))
    (one_joined table graph c.args.slot c.known.ensures.table c.known.ensures.graph c.requires.table step (plain value) own))
    c.contributed_value.ensures

pub returns-in_ok-join-in_default : goal.returns-in_ok-join-in_default
returns-in_ok-join-in_default t c =
    let steps = c.args.steps.now in
    both_joined c.args.table.now c.args.graph.now c.args.slot c.known.ensures.table c.known.ensures.graph c.requires.table steps c.split_at.result.0.now c.split_at.result.1.now
    c.in_ok-joined-in_default.joined c.in_ok-other-in_default.other c.join.new.self
    ((λ i. c.split_at.ensures.front i ++ c.split_at.ensures.back i) ∙ both_parts (length steps / 2) steps)
    c.in_ok-join-in_default.ensures.ok c.in_ok-joined-in_default.ensures c.in_ok-other-in_default.ensures
