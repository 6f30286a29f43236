use Rattle.std.proofs.Common.{◌≡◌, ◌∙◌, map, sym, ap, subst, arith}
use Rattle.context_model.specs.Orders.{IsIn}
use Rattle.bag_model.specs.Slots.{slots_of}
use Rattle.bag_value.specs.Vals.{plain}
use Rattle.field_table.specs.Plain.{shape_of}
use Rattle.text_model.specs.ValueTexts.{value_text}
use Rattle.write_proof.specs.declared.verdicts.VerifyCode.TheVariants as codes
use Rattle.write_proof.specs.FirstLines.{FindsLine}
use Rattle.write_proof.specs.Joins.{IsJoinAt}
use Rattle.write_proof.specs.Views.{entry_of}
use Rattle.write_proof.proofs.BelowCalls.{place_within}
use Rattle.write_proof.proofs.ContributionCalls.{told_shape}
use Rattle.write_proof.proofs.WholeVerdict.{has_slot, reached_within, used_within, first_rule, second_rule, third_rule, fourth_rule, no_rule, none_there, text_differs, text_is}
use Rattle.write_proof.proofs.checker.check_together.Goals as goal

pub reached_marks-requires : goal.reached_marks-requires
reached_marks-requires c = λ step i.
    let read = c.requires.read.2 in
    let within = reached_within c.args.table.now c.args.graph.now c.requires.read.0 (map entry_of c.args.entries.now) read.all c.known.ensures.graph step i in
    omega (arith, within, c.steps.ensures)

pub returns-in-Some : goal.returns-in-Some
returns-in-Some c = λ certificate at read.
    first_rule c.args.table.now c.args.graph.now certificate (map entry_of c.args.entries.now) c.args.slot at read c.in-Some.line (c.in-Some.ensures c.args.graph.now c.args.slot at)

pub returns-in-Some-missing : goal.returns-in-Some-missing
returns-in-Some-missing c = λ certificate at read.
    let graph = c.args.graph.now in
    let said = map entry_of c.args.entries.now in
    second_rule c.args.table.now graph certificate said c.args.slot at read
    (none_there graph c.args.slot at said codes.NotListed c.not_listed.result (c.not_listed.ensures graph c.args.slot at) c.in_default.not-Some)
    c.in-Some-missing.line (c.in-Some-missing.ensures c.args.slot at)

pub join_steps-requires-clause-slot : goal.join_steps-requires-clause-slot
join_steps-requires-clause-slot c =
    place_within c.requires.read.1 (slots_of c.args.table.now) c.args.slot
    (has_slot c.args.table.now c.args.graph.now c.requires.read.0 (map entry_of c.args.entries.now) c.args.slot c.requires.read.1 c.requires.read.2)

pub join_steps-requires-clause-steps : goal.join_steps-requires-clause-steps
join_steps-requires-clause-steps c = λ step i.
    let read = c.requires.read.2 in
    used_within c.args.table.now c.args.graph.now c.requires.read.0 (map entry_of c.args.entries.now) read.all step (subst (λ l. IsIn step l) (c.as_slice.ensures.value ∙ c.in_ok-steps.ensures) i)

pub shape-requires : goal.shape-requires
shape-requires c =
    place_within c.requires.read.1 (slots_of c.args.table.now) c.args.slot
    (has_slot c.args.table.now c.args.graph.now c.requires.read.0 (map entry_of c.args.entries.now) c.args.slot c.requires.read.1 c.requires.read.2)

pub returns-then-ne : goal.returns-then-ne
returns-then-ne c = λ certificate at read.
    let table = c.args.table.now in
    let graph = c.args.graph.now in
    let slot = c.args.slot in
    let said = map entry_of c.args.entries.now in
    let joined = plain c.in_ok-joined.joined in
    let there = has_slot table graph certificate said slot at read in
    let wanted : c.as_slice-2.result.now ≡ value_text at.shape joined =
    c.as_slice-2.ensures.value ∙ c.in_ok-wanted.ensures ∙ ap (λ s. value_text s joined) (told_shape table slot at (shape_of c.shape.result.now) there c.shape.ensures)
    in
    third_rule table graph certificate said slot at read
    (none_there graph slot at said codes.NotListed c.not_listed.result (c.not_listed.ensures graph slot at) c.in_default.not-Some)
    (none_there graph slot at said codes.Missing c.missing.result (c.missing.ensures slot at) c.in_default-missing.not-Some)
    c.requires.text.0 c.args.text.now c.requires.text.1 joined
    (subst (λ l. IsJoinAt table graph slot l joined) (c.as_slice.ensures.value ∙ c.in_ok-steps.ensures) c.in_ok-joined.ensures at there)
    (λ e. text_differs c.args.text.now c.as_slice-2.result.now c.ne.result c.ne.ensures c.if-ne.true (e ∙ sym wanted))

pub too_much-requires-clause-slot : goal.too_much-requires-clause-slot
too_much-requires-clause-slot c =
    place_within c.requires.read.1 (slots_of c.args.table.now) c.args.slot
    (has_slot c.args.table.now c.args.graph.now c.requires.read.0 (map entry_of c.args.entries.now) c.args.slot c.requires.read.1 c.requires.read.2)

pub too_much-requires-clause-joined : goal.too_much-requires-clause-joined
too_much-requires-clause-joined c =
    subst (λ l. IsJoinAt c.args.table.now c.args.graph.now c.args.slot l (plain c.in_ok-joined.joined)) (c.as_slice.ensures.value ∙ c.in_ok-steps.ensures) c.in_ok-joined.ensures

pub returns-in-Some-2 : goal.returns-in-Some-2
returns-in-Some-2 c = λ certificate at read.
    let table = c.args.table.now in
    let graph = c.args.graph.now in
    let slot = c.args.slot in
    let said = map entry_of c.args.entries.now in
    let joined = plain c.in_ok-joined.joined in
    let there = has_slot table graph certificate said slot at read in
    let wanted : c.as_slice-2.result.now ≡ value_text at.shape joined =
    c.as_slice-2.ensures.value ∙ c.in_ok-wanted.ensures ∙ ap (λ s. value_text s joined) (told_shape table slot at (shape_of c.shape.result.now) there c.shape.ensures)
    in
    fourth_rule table graph certificate said slot at read
    (none_there graph slot at said codes.NotListed c.not_listed.result (c.not_listed.ensures graph slot at) c.in_default.not-Some)
    (none_there graph slot at said codes.Missing c.missing.result (c.missing.ensures slot at) c.in_default-missing.not-Some)
    c.requires.text.0 c.args.text.now c.requires.text.1 joined
    (subst (λ l. IsJoinAt table graph slot l joined) (c.as_slice.ensures.value ∙ c.in_ok-steps.ensures) c.in_ok-joined.ensures at there)
    (text_is c.args.text.now c.as_slice-2.result.now c.ne.result c.ne.ensures c.if-ne.false ∙ wanted)
    c.known.ensures.table c.known.ensures.graph c.requires.table
    c.in-Some-2.line (subst (FindsLine graph slot at said codes.TooMuch) c.in-Some-2.is (c.in_ok-line.ensures at there))

pub returns : goal.returns
returns c = λ certificate at read.
    let table = c.args.table.now in
    let graph = c.args.graph.now in
    let slot = c.args.slot in
    let said = map entry_of c.args.entries.now in
    let joined = plain c.in_ok-joined.joined in
    let there = has_slot table graph certificate said slot at read in
    let wanted : c.as_slice-2.result.now ≡ value_text at.shape joined =
    c.as_slice-2.ensures.value ∙ c.in_ok-wanted.ensures ∙ ap (λ s. value_text s joined) (told_shape table slot at (shape_of c.shape.result.now) there c.shape.ensures)
    in
    no_rule table graph certificate said slot at read
    (none_there graph slot at said codes.NotListed c.not_listed.result (c.not_listed.ensures graph slot at) c.in_default.not-Some)
    (none_there graph slot at said codes.Missing c.missing.result (c.missing.ensures slot at) c.in_default-missing.not-Some)
    c.requires.text.0 c.args.text.now c.requires.text.1 joined
    (subst (λ l. IsJoinAt table graph slot l joined) (c.as_slice.ensures.value ∙ c.in_ok-steps.ensures) c.in_ok-joined.ensures at there)
    (text_is c.args.text.now c.as_slice-2.result.now c.ne.result c.ne.ensures c.if-ne.false ∙ wanted)
    c.known.ensures.table c.known.ensures.graph c.requires.table
    (none_there graph slot at said codes.TooMuch c.in_ok-line.field-0 (c.in_ok-line.ensures at there) c.in_default-2.not-Some)
