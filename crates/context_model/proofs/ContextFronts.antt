-- The first fault of a context: where the atoms read so far cease to be a context, no context goes further.
use Rattle.std.proofs.Common.{◌≡◌, ℕ, ◌+◌, ◌<◌, ◌≤◌, inl, inr, [], List, ◌∷◌, ◌++◌, length, take, drop, refl, sym, ◌∙◌, ap, subst, append_assoc, length-append, arith}
use Rattle.std.proofs.lemmas.List.{take_at, drop_at, take-append-drop, length-take-le, take_all}
use Rattle.std.proofs.lemmas.Bool.{cases_lt}
use Rattle.context_model.specs.declared.Form.{Form}
use Rattle.context_model.specs.Atoms.{Atom}
use Rattle.context_model.specs.Framing.{frame, frames, most, form_of, head_len, AreWithin}
use Rattle.context_model.specs.ByteCodes.{ByteCode}
use Rattle.context_model.specs.Paths.{last_path_after}
use Rattle.context_model.specs.WellFormed.{IsWellFormed}
use Rattle.context_model.specs.WireFault.{IsUnframed}
use Rattle.context_model.specs.ShapeFault.{IsWrong}
use Rattle.context_model.specs.ContextFault.{IsWrongBehind, IsFirstUnformed, HasOneContext}
use Rattle.context_model.proofs.Frames.{frame_cancel, frames_cancel, not_longer, wrong_frame, one_code}
use Rattle.context_model.proofs.Heads.{read_back}
use Rattle.context_model.proofs.FirstFaults.{FirstFault-unique, FirstFault-none, reads_one_way}
use Rattle.context_model.proofs.ShapeLaws.{fits_there, wrong_apart, wrong_unique}

module _ (form : Form) where
  -- A list goes on from a prefix of its bytes: of two lists whose bytes have one beginning, the
  -- list with fewer bytes is a prefix of the other, or something is wrong between.
  pub goes_on : (list other : List Atom) (rest more : List ℕ) → AreWithin form list → AreWithin form other → frames form list ++ rest ≡ frames form other ++ more
      → length (frames form list) < length (frames form other) → (atom : Atom) × (behind : List Atom) × (other ≡ list ++ atom ∷ behind) × (length atom ≤ most form) × (rest ≡ frame form atom ++ (frames form behind ++ more))
  goes_on [] [] rest more short short' e less = absurd (omega arith)
  goes_on [] (b ∷ other) rest more short short' e less = (b, other, refl, short'.0, e ∙ append_assoc (frame form b) (frames form other) more)
  goes_on (a ∷ list) [] rest more short short' e less = absurd (omega arith)
  goes_on (a ∷ list) (b ∷ other) rest more short short' e less =
      let parts = frame_cancel form a b (frames form list ++ rest) (frames form other ++ more) short.0 short'.0
      (sym (append_assoc (frame form a) (frames form list) rest) ∙ e ∙ append_assoc (frame form b) (frames form other) more) in
      let l = length-append (frame form a) (frames form list) in
      let k = length-append (frame form b) (frames form other) in
      let m = ap (λ x. length (frame form x)) parts.0 in
      let later = goes_on list other rest more short.1 short'.1 parts.1 (omega arith) in
      let heads = parts.0 in
      let tails = later.2 in
      (later.0, later.1, (λ i. sym heads i ∷ tails i), later.3, later.4)

  -- After a context with something wrong no context goes further.
  pub no_further : (list other : List Atom) (rest more : List ℕ) (code : ByteCode) → AreWithin form list → AreWithin form other → IsWellFormed other → frames form list ++ rest ≡ frames form other ++ more
      → IsWrongBehind form list rest code → length (frames form other) ≤ length (frames form list)
  no_further list other rest more code short short' formed e (inl wire) = not_longer form list other rest more code short short' e wire
  no_further list other rest more code short short' formed e (inr (atom, behind, fits, is, wrong)) = elim (cases_lt (length (frames form list)) (length (frames form other))) [
    | inr not ↦ not
    | inl less ↦ (
        let next = goes_on list other rest more short short' e less in
        let same = (frame_cancel form atom next.0 behind (frames form next.1 ++ more) fits next.3 (sym is ∙ next.4)).0 in
        let there = fits_there list next.0 next.1 (subst IsWellFormed next.2 formed) in
        absurd (wrong_apart code (last_path_after [] list) next.0 (subst (IsWrong code (last_path_after [] list)) same wrong) there.0 there.1)
        )
  ]

  -- What is wrong after a context is the first fault.
  pub first_unformed : (bytes rest : List ℕ) (list : List Atom) (code : ByteCode) → AreWithin form list → IsWellFormed list → bytes ≡ frames form list ++ rest → 0 < length rest → IsWrongBehind form list rest code
      → IsFirstUnformed form bytes (length (frames form list)) code
  first_unformed bytes rest list code short formed split some wrong =
      let front = frames form list in
      let l : length bytes ≡ length front + length rest = ap length split ∙ length-append front rest in
      record {
        list = list;
        within = omega arith;
        front = (short, formed, ap (take (length front)) split ∙ take_at front rest (length front) refl);
        longest = λ n other upto framed. (
            let whole : front ++ rest ≡ frames form other ++ drop n bytes = sym split ∙ sym (take-append-drop n bytes) ∙ ap (λ xs. xs ++ drop n bytes) framed.2 in
            let less = no_further list other rest (drop n bytes) code short framed.0 framed.1 whole wrong in
            let n_is = ap length framed.2 in
            let n_long = length-take-le n bytes upto in
            omega arith
            );
        applies = subst (λ xs. IsWrongBehind form list xs code) (sym (ap (drop (length front)) split ∙ drop_at front rest (length front) refl)) wrong;
      }

  -- One code applies after a list.
  wrong_behind_unique : (list : List Atom) (rest : List ℕ) (c d : ByteCode) → IsWrongBehind form list rest c → IsWrongBehind form list rest d → c ≡ d
  wrong_behind_unique list rest c d (inl a) (inl b) = one_code form rest c d a b
  wrong_behind_unique list rest c d (inl a) (inr (atom, more, short, is, wrong)) =
      absurd (wrong_frame form atom more c short (subst (λ xs. IsUnframed form xs c) is a))
  wrong_behind_unique list rest c d (inr (atom, more, short, is, wrong)) (inl b) =
      absurd (wrong_frame form atom more d short (subst (λ xs. IsUnframed form xs d) is b))
  wrong_behind_unique list rest c d (inr (atom, more, short, is, wrong)) (inr (other, more', short', is', wrong')) =
      let same = (frame_cancel form other atom more' more short' short (sym is' ∙ is)).0 in
      wrong_unique c d (last_path_after [] list) atom wrong (subst (IsWrong d (last_path_after [] list)) same wrong')

  pub one_unformed : (bytes : List ℕ) (i j : ℕ) (c d : ByteCode) → IsFirstUnformed form bytes i c → IsFirstUnformed form bytes j d → (i ≡ j) × (c ≡ d)
  one_unformed bytes i j c d a b =
      let up = b.longest i a.list (let w = a.within in omega arith) a.front in
      let down = a.longest j b.list (let w = b.within in omega arith) b.front in
      let same : i ≡ j = omega arith in
      let lists = frames_cancel form b.list a.list b.front.0 a.front.0 (sym b.front.2 ∙ ap (λ n. take n bytes) (sym same) ∙ a.front.2) in (
        same,
        wrong_behind_unique a.list (drop i bytes) c d a.applies
            (subst (λ list. IsWrongBehind form list (drop i bytes) d) lists (subst (λ n. IsWrongBehind form b.list (drop n bytes) d) (sym same) b.applies)),
      )

  pub no_unformed : (bytes : List ℕ) (list : List Atom) (offset : ℕ) (code : ByteCode) → AreWithin form list → IsWellFormed list → bytes ≡ frames form list
      → IsFirstUnformed form bytes offset code → ⊥
  no_unformed bytes list offset code short formed e fault =
      let all : take (length bytes) bytes ≡ bytes = take_all (length bytes) bytes (omega arith) in
      let late = fault.longest (length bytes) list (omega arith) (short, formed, all ∙ e) in
      let w = fault.within in
      absurd (omega arith)

pub has_one_context : (bytes : List ℕ) → HasOneContext bytes
has_one_context bytes = record {
  list = λ a b of_a of_b. (reads_one_way bytes).list a b of_a.0 of_b.0 of_a.2 of_b.2;
  fault = FirstFault-unique IsFirstUnformed one_unformed bytes;
  either = λ list offset code of_list fault. (
      let read = read_back bytes list of_list.0 of_list.2 in
      FirstFault-none IsFirstUnformed bytes offset code read.0
      (λ at behind. no_unformed (form_of bytes) (drop (head_len (form_of bytes)) bytes) list at code read.1 of_list.1 read.2 behind) fault
      );
}
