-- How many bytes come before an atom of a list.
use Rattle.std.proofs.Common.{◌≡◌, ℕ, ◌+◌, ◌≤◌, List, length, take, refl, sym, ap, ◌∙◌, arith}
use Rattle.std.proofs.lemmas.List.{take-take}
use Rattle.context_model.specs.declared.Form.{Form}
use Rattle.context_model.specs.declared.Form.TheVariants.{One, Two}
use Rattle.context_model.specs.Atoms.{Atom, AreAtoms}
use Rattle.context_model.specs.ContextFault.{IsContextOf}
use Rattle.context_model.specs.Framing.{frames, head_len, form_of, written_in, offset_of}
use Rattle.context_model.proofs.FramingLaws.{AreAtoms-take, frames_lens, frames_len-front}
use Rattle.context_model.proofs.Heads.{form_back}

-- A list is written in the form of the bytes that it was read from.
pub written_as_read : (bytes : List ℕ) (list : List Atom) → IsContextOf list bytes → written_in (form_of bytes) list ≡ form_of bytes
written_as_read bytes list context = sym (ap form_of context.2 ∙ form_back (form_of bytes) list context.0)

pub head_short : (form : Form) → head_len form ≤ 12
head_short One = omega arith
head_short Two = omega arith

-- Beside the head they are as many as in form two.
pub offset_by_two : (form : Form) (list : List Atom) (place : ℕ) → AreAtoms list → written_in form list ≡ form
    → offset_of form list place ≡ head_len form + length (frames Two (take place list))
offset_by_two form list place short written =
    ap (λ width. head_len width + length (frames width (take place list))) written ∙ ap (λ n. head_len form + n) (by form)
  where
    by : (width : Form) → length (frames width (take place list)) ≡ length (frames Two (take place list))
    by One = frames_lens (take place list) (AreAtoms-take place list short)
    by Two = refl

-- No fewer come before a later one.
pub offset_rises : (form : Form) (list : List Atom) (place later : ℕ) → place ≤ later → offset_of form list place ≤ offset_of form list later
offset_rises form list place later before =
    let width = written_in form list in
    let some = frames_len-front width place (take later list) in
    let same : length (frames width (take place (take later list))) ≡ length (frames width (take place list)) = ap (λ l. length (frames width l)) (take-take place later list before) in
    omega (arith, some, same)
