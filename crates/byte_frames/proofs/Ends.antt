-- What follows for all bytes from where a look through them ended.
use Rattle.std.proofs.Common.{◌≡◌, ℕ, ◌-◌, ◌<◌, ◌≤◌, inr, List, ◌++◌, [], length, drop, None, ◌∙◌, ap, subst, append-nil, length-append, arith}
use Rattle.std.proofs.lemmas.List.{length-drop}
use Rattle.context_model.specs.declared.Form.{Form}
use Rattle.context_model.specs.Atoms.{Atom}
use Rattle.context_model.specs.ByteCodes.{ByteCode as PlainCode}
use Rattle.context_model.specs.Framing.{frames, form_of, head_len}
use Rattle.context_model.specs.WireFault.{head_code}
use Rattle.context_model.specs.ContextFault.{IsContextOf, IsWrongBehind, IsFirstContextFault}
use Rattle.context_model.proofs.ContextFronts.{first_unformed}
use Rattle.context_model.proofs.Heads.{AreWithin-atoms, read_there}
use Rattle.byte_frames.specs.OpenAtoms.{OpenAtoms}
use Rattle.byte_frames.specs.Reading.{IsReadTo}

-- Bytes with a right head in this form, of which a context was read and the rest is left.
pub record IsReadUpTo (form : Form) (bytes : List ℕ) (list : List Atom) (rest : List ℕ) : Type 0 where
  pub form_is : form ≡ form_of bytes
  pub right : head_code form bytes ≡ None
  pub long : head_len form ≤ length bytes
  pub split : drop (head_len form) bytes ≡ frames form list ++ rest

-- In the form that the bytes are read in.
in_own_form : (form : Form) (bytes : List ℕ) (list : List Atom) (rest : List ℕ) (P : Form → Type 0)
    → IsReadUpTo form bytes list rest → P form → IsReadUpTo (form_of bytes) bytes list rest × P (form_of bytes)
in_own_form form bytes list rest P reads own =
    (subst (λ width. IsReadUpTo width bytes list rest) reads.form_is reads, subst P reads.form_is own)

-- Where nothing is left, they are those of the context.
pub context_read : (form : Form) (bytes : List ℕ) (list : List Atom) (rest : List ℕ) (opened : OpenAtoms)
    → IsReadUpTo form bytes list rest → IsReadTo form list opened → rest ≡ [] → IsContextOf list bytes
context_read form bytes list rest opened reads read none =
    let own = in_own_form form bytes list rest (λ width. IsReadTo width list opened) reads read in
    let width = form_of bytes in
    let behind : drop (head_len width) bytes ≡ frames width list = own.0.split ∙ ap (λ v. frames width list ++ v) none ∙ append-nil (frames width list) in
    (AreWithin-atoms width list own.1.within, own.1.formed, read_there bytes list own.0.right own.1.within behind)

-- Where something wrong is left, it is the first fault.
pub fault_read : (form : Form) (bytes : List ℕ) (list : List Atom) (rest : List ℕ) (opened : OpenAtoms) (code : PlainCode)
    → IsReadUpTo form bytes list rest → IsReadTo form list opened → 0 < length rest
    → IsWrongBehind form list rest code → IsFirstContextFault bytes (length bytes - length rest) code
fault_read form bytes list rest opened code reads read some wrong =
    let own = in_own_form form bytes list rest (λ width. IsReadTo width list opened × IsWrongBehind width list rest code) reads (read, wrong) in
    let width = form_of bytes in
    let behind = drop (head_len width) bytes in
    let first = first_unformed width behind rest list code own.1.0.within own.1.0.formed own.0.split some own.1.1 in
    let parts = ap length own.0.split ∙ length-append (frames width list) rest in
    let front = length-drop (head_len width) bytes in
    let long = own.0.long in
    inr (length (frames width list), own.0.right, (omega arith), first)
