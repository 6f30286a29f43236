-- First faults of bytes: one at most, and none where the bytes are those of a list.
use Rattle.std.proofs.Common.{◌≡◌, inl, inr, ℕ, ◌+◌, List, drop, None, sym, ◌∙◌, ap}
use Rattle.context_model.specs.declared.Form.{Form}
use Rattle.context_model.specs.Framing.{form_of, head_len}
use Rattle.context_model.specs.ByteCodes.{ByteCode}
use Rattle.context_model.specs.WireFault.{head_code, FirstFault, IsFirstUnframed, ReadsOneWay}
use Rattle.context_model.proofs.Frames.{frames_cancel, no_unframed, one_unframed}
use Rattle.context_model.proofs.Heads.{IsBytesOf-any, read_back}

module _ (Behind : Form → List ℕ → ℕ → ByteCode → Type 0) where
  -- Where there is one first fault after a head, there is one in all.
  pub FirstFault-unique : ((form : Form) (rest : List ℕ) (i j : ℕ) (c d : ByteCode) → Behind form rest i c → Behind form rest j d → (i ≡ j) × (c ≡ d))
      → (bytes : List ℕ) (i j : ℕ) (c d : ByteCode) → FirstFault Behind bytes i c → FirstFault Behind bytes j d → (i ≡ j) × (c ≡ d)
  FirstFault-unique one bytes i j c d (inl a) (inl b) = (a.0 ∙ sym b.0, cc (a.1, b.1))
  FirstFault-unique one bytes i j c d (inl a) (inr b) = absurd (cc (a.1, b.1))
  FirstFault-unique one bytes i j c d (inr a) (inl b) = absurd (cc (a.1, b.1))
  FirstFault-unique one bytes i j c d (inr a) (inr b) =
      let same = one (form_of bytes) (drop (head_len (form_of bytes)) bytes) a.0 b.0 c d a.3 b.3 in
      (a.2 ∙ ap (λ at. head_len (form_of bytes) + at) same.0 ∙ sym b.2, same.1)

  -- Bytes with a right head, and nothing wrong after it, have none.
  pub FirstFault-none : (bytes : List ℕ) (offset : ℕ) (code : ByteCode) → head_code (form_of bytes) bytes ≡ None
      → ((at : ℕ) → Behind (form_of bytes) (drop (head_len (form_of bytes)) bytes) at code → ⊥) → FirstFault Behind bytes offset code → ⊥
  FirstFault-none bytes offset code right none (inl a) = absurd (cc (a.1, right))
  FirstFault-none bytes offset code right none (inr b) = none b.0 b.3

pub reads_one_way : ReadsOneWay
reads_one_way bytes = record {
  list = λ a b short_a short_b e f. (
      let left = read_back bytes a short_a e in
      let right = read_back bytes b short_b f in
      frames_cancel (form_of bytes) a b left.1 right.1 (sym left.2 ∙ right.2)
      );
  fault = FirstFault-unique IsFirstUnframed one_unframed bytes;
  either = λ list offset code short e fault. (
      let read = read_back bytes list short e in
      FirstFault-none IsFirstUnframed bytes offset code read.0
      (λ at behind. no_unframed (form_of bytes) (drop (head_len (form_of bytes)) bytes) list at code read.1 read.2 behind) fault
      );
  any = λ form list short e. IsBytesOf-any form list bytes short e;
}
