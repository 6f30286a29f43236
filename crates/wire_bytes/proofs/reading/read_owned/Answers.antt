use Rattle.std.proofs.Common.{rules, ◌+◌, subst, ◌∙◌, sym, ap, arith}
use Rattle.context_model.specs.Framing.{head_len}
use Rattle.context_model.specs.WireFault.{IsFirstWireFault}
use Rattle.context_model.proofs.Heads.{AreWithin-atoms}
use Rattle.context_model.proofs.FirstFaults.{reads_one_way}
use Rattle.wire_bytes.specs.Reading.{code_of, ReadsUpTo}
use Rattle.wire_bytes.proofs.Stops.{wire_list, wire_fault, stop_within, only_err}
use Rattle.wire_bytes.proofs.reading.read_owned.Goals as goal

pub returns-in_err-form-clause-fault : goal.returns-in_err-form-clause-fault
returns-in_err-form-clause-fault c = search rules

pub returns-in_err-form-clause-only : goal.returns-in_err-form-clause-only
returns-in_err-form-clause-only c = only_err c.args.bytes.items c.from_residual.result c.from_residual.ensures.0 (returns-in_err-form-clause-fault c)

pub overflow_add-result : goal.overflow_add-result
overflow_add-result c =
    let within = stop_within c.args.bytes.items c.in_ok-form.field-0.list (c.in-Some.behind, c.in-Some.code) (subst (ReadsUpTo c.args.bytes.items c.in_ok-form.field-0.list) c.in-Some.is c.in_ok-form.ensures.reads) in
    let head = c.head_len.ensures ∙ ap head_len c.in_ok-form.ensures.form in
    omega (arith, c.args.bytes.ok.0, c.args.bytes.small)

pub returns-in-None-clause-found : goal.returns-in-None-clause-found
returns-in-None-clause-found c = wire_list c.args.bytes.items c.in_ok-form.field-0.list (subst (ReadsUpTo c.args.bytes.items c.in_ok-form.field-0.list) c.in-None.is c.in_ok-form.ensures.reads)

pub returns-in-None-clause-atoms : goal.returns-in-None-clause-atoms
returns-in-None-clause-atoms c = AreWithin-atoms _ c.in_ok-form.field-0.list c.in_ok-form.ensures.reads.within

pub returns-in-None-clause-only : goal.returns-in-None-clause-only
returns-in-None-clause-only c = λ form list short is. (
    let one = reads_one_way c.args.bytes.items in
    one.list c.in_ok-form.field-0.list list (returns-in-None-clause-atoms c) short (returns-in-None-clause-found c) (one.any form list short is)
    )

pub returns-in-Some-clause-fault : goal.returns-in-Some-clause-fault
returns-in-Some-clause-fault c =
    subst (λ head. IsFirstWireFault c.args.bytes.items (head + c.in-Some.behind) (code_of c.in-Some.code)) (sym (c.head_len.ensures ∙ ap head_len c.in_ok-form.ensures.form))
    (wire_fault c.args.bytes.items c.in_ok-form.field-0.list (c.in-Some.behind, c.in-Some.code) (subst (ReadsUpTo c.args.bytes.items c.in_ok-form.field-0.list) c.in-Some.is c.in_ok-form.ensures.reads))

pub returns-in-Some-clause-only : goal.returns-in-Some-clause-only
returns-in-Some-clause-only c = λ form list short is. (
    let one = reads_one_way c.args.bytes.items in
    absurd (one.either list _ _ short (one.any form list short is) (returns-in-Some-clause-fault c))
    )
