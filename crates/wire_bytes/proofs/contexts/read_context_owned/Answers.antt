use Rattle.std.proofs.Common.{rules, ◌≡◌, ◌+◌, ℕ, List, length, take, subst, ◌∙◌, sym, ap, arith}
use Rattle.std.proofs.lemmas.Option.{slice_get_within}
use Rattle.context_model.specs.ByteCodes.{ByteCode}
use Rattle.context_model.specs.Framing.{form_of, head_len, frames}
use Rattle.context_model.specs.WellFormed.{IsWellFormed}
use Rattle.context_model.specs.ContextFault.{IsContextOf, IsFirstContextFault}
use Rattle.context_model.proofs.Heads.{AreWithin-atoms}
use Rattle.context_model.proofs.ContextFronts.{has_one_context}
use Rattle.atom_list.specs.Contexts.{shape_fault_code_of}
use Rattle.wire_bytes.specs.Reading.{byte_code_of, code_of, ReadsUpTo}
use Rattle.wire_bytes.proofs.Stops.{wire_list, stop_within, shape_fault, context_wire_fault, context_of, only_context_err}
use Rattle.wire_bytes.proofs.contexts.read_context_owned.Goals as goal

pub returns-in_err-form-clause-fault : goal.returns-in_err-form-clause-fault
returns-in_err-form-clause-fault c = search rules

pub returns-in_err-form-clause-only : goal.returns-in_err-form-clause-only
returns-in_err-form-clause-only c = only_context_err c.args.bytes.items c.from_residual.result c.from_residual.ensures.0 (returns-in_err-form-clause-fault c)

pub frames_before-requires : goal.frames_before-requires
frames_before-requires c =
    let fault = c.in-Err.ensures.fault in
    omega (arith, slice_get_within c.in_ok-form.field-0.list c.in-Err.place fault.atom fault.there, ap length c.in-Err.ensures.back)

-- A fault with the offset and the code that are answered.
answered : (bytes : List ℕ) (offset offset' : ℕ) (code code' : ByteCode) → IsFirstContextFault bytes offset' code' → offset ≡ offset' → code ≡ code' → IsFirstContextFault bytes offset code
answered bytes offset offset' code code' fault e f = subst (λ n. IsFirstContextFault bytes n code) (sym e) (subst (IsFirstContextFault bytes offset') (sym f) fault)

pub returns-in-Err-clause-fault : goal.returns-in-Err-clause-fault
returns-in-Err-clause-fault c =
    let form = form_of c.args.bytes.items in
    let fault = shape_fault c.args.bytes.items c.in_ok-form.field-0.list c.in_ok-form.field-0.fault c.in-Err.place (shape_fault_code_of c.in-Err.shape) c.in_ok-form.ensures.reads c.in-Err.ensures.fault in
    let head = c.head_len.ensures ∙ ap head_len c.in_ok-form.ensures.form in
    let before = c.frames_before.ensures.frames form ∙ ap (λ list. length (frames form (take c.in-Err.place list))) c.in-Err.ensures.back in
    answered c.args.bytes.items (c.head_len.result + c.frames_before.result) _ (byte_code_of c.from.result) _ fault (omega arith) c.from.ensures

pub returns-in-Err-clause-only : goal.returns-in-Err-clause-only
returns-in-Err-clause-only c = λ form list short formed e.
    absurd ((has_one_context c.args.bytes.items).either list _ _ (context_of c.args.bytes.items form list short formed e) (returns-in-Err-clause-fault c))

pub overflow_add-result-in-Some : goal.overflow_add-result-in-Some
overflow_add-result-in-Some c =
    let within = stop_within c.args.bytes.items c.in_ok-form.field-0.list (c.in-Some.behind, c.in-Some.wire) (subst (ReadsUpTo c.args.bytes.items c.in_ok-form.field-0.list) c.in-Some.is c.in_ok-form.ensures.reads) in
    let head = c.head_len-in-Some.ensures ∙ ap head_len c.in_ok-form.ensures.form in
    omega (arith, c.args.bytes.ok.0, c.args.bytes.small)

pub returns-in-None-clause-found : goal.returns-in-None-clause-found
returns-in-None-clause-found c =
    let list = c.in_ok-form.field-0.list in
    let reads = c.in_ok-form.ensures.reads in
    let formed = subst IsWellFormed c.in-Ok.ensures.ok c.in-Ok.ensures.well_formed in
    let own : IsContextOf list c.args.bytes.items = (AreWithin-atoms _ list reads.within, formed, wire_list c.args.bytes.items list (subst (ReadsUpTo c.args.bytes.items list) c.in-None.is reads)) in
    subst (λ v. IsContextOf v c.args.bytes.items) (sym c.in-Ok.ensures.ok) own

pub returns-in-None-clause-only : goal.returns-in-None-clause-only
returns-in-None-clause-only c = λ form list short formed e.
    (has_one_context c.args.bytes.items).list _ list (returns-in-None-clause-found c) (context_of c.args.bytes.items form list short formed e)

pub returns-in-Some-clause-fault : goal.returns-in-Some-clause-fault
returns-in-Some-clause-fault c =
    let list = c.in_ok-form.field-0.list in
    let formed = subst IsWellFormed c.in-Ok.ensures.ok c.in-Ok.ensures.well_formed in
    let fault = context_wire_fault c.args.bytes.items list (c.in-Some.behind, c.in-Some.wire) formed (subst (ReadsUpTo c.args.bytes.items list) c.in-Some.is c.in_ok-form.ensures.reads) in
    let head = c.head_len-in-Some.ensures ∙ ap head_len c.in_ok-form.ensures.form in
    answered c.args.bytes.items (c.head_len-in-Some.result + c.in-Some.behind) _ (byte_code_of c.from-in-Some.result) (code_of c.in-Some.wire) fault (omega arith) c.from-in-Some.ensures

pub returns-in-Some-clause-only : goal.returns-in-Some-clause-only
returns-in-Some-clause-only c = λ form list short formed e.
    absurd ((has_one_context c.args.bytes.items).either list _ _ (context_of c.args.bytes.items form list short formed e) (returns-in-Some-clause-fault c))
