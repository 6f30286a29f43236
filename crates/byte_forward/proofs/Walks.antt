-- A cut merge of which some frames are past, and a buffer into which these were written.
use Rattle.std.proofs.Common.{◌≡◌, ℕ, ◌+◌, ◌≤◌, List, [], ◌∷◌, ◌++◌, length, append_assoc, Option, Some, None, is_some, true, false, MatchOption, sym, ap, ◌∙◌, subst}
use Rattle.std.proofs.lemmas.List.{append-nil}
use Rattle.std.proofs.lemmas.Bool.{false≢true}
use Rattle.context_model.specs.declared.Form.{Form}
use Rattle.context_model.specs.Atoms.{Atom}
use Rattle.context_model.specs.Framing.{frames, size_of, written_in}
use Rattle.byte_forward.specs.declared.cutting.Cut.{Cut}
use Rattle.byte_forward.specs.Cutting.{IsUnderWay}
use Rattle.byte_forward.specs.Room.{HoldsBytes}

-- These atoms of the whole are past, and these are still to come.
pub record IsWalk (whole now : Cut) : Type 0 where
  pub past : List Atom
  pub left : List Atom
  pub begun : IsUnderWay [] whole (past ++ left)
  pub under_way : IsUnderWay past now left
  pub form : now.form ≡ whole.form
  pub budget : now.budget ≡ whole.budget

-- Those that are past were written into the buffer, which has place for all.
pub record IsFilled (written : Form) (whole now : Cut) (at : ℕ) (old new : List ℕ) : Type 0 where
  pub walk : IsWalk whole now
  pub form : written ≡ written_in whole.form (walk.past ++ walk.left)
  pub holds : HoldsBytes (frames written walk.past) at old new
  pub fits : length (frames written (walk.past ++ walk.left)) ≤ length old

-- One frame more is past.
pub split_next : (past left : List Atom) (atom : Atom) (rest : List Atom) → left ≡ atom ∷ rest → past ++ left ≡ (past ++ atom ∷ []) ++ rest
split_next past left atom rest next = ap (λ l. past ++ l) next ∙ sym (append_assoc past (atom ∷ []) rest)

abbrev pub walk_on : (whole before after : Cut) (w : IsWalk whole before) (atom : Atom) (rest : List Atom) → after.form ≡ before.form → after.budget ≡ before.budget
    → w.left ≡ atom ∷ rest → IsUnderWay (w.past ++ atom ∷ []) after rest → IsWalk whole after
walk_on whole before after w atom rest form budget next under_way = record {
  past = w.past ++ atom ∷ [];
  left = rest;
  begun = subst (IsUnderWay [] whole) (split_next w.past w.left atom rest next) w.begun;
  under_way = under_way;
  form = form ∙ w.form;
  budget = budget ∙ w.budget;
}

-- All are past.
pub walk_end : (whole now : Cut) (w : IsWalk whole now) → w.left ≡ [] → w.past ++ w.left ≡ w.past
walk_end whole now w none = ap (λ l. w.past ++ l) none ∙ append-nil w.past

-- An option that is some has what is said of its value, and one that isn't has what is said of none.
pub of_some : {T : Type 0} (found : Option T) (P : Type 0) (Q : T → Type 0) → is_some found ≡ true → MatchOption found P Q → (x : T) × Q x
of_some None P Q some said = absurd (false≢true some)
of_some (Some x) P Q some said = (x, said)

pub of_none : {T : Type 0} (found : Option T) (P : Type 0) (Q : T → Type 0) → is_some found ≡ false → MatchOption found P Q → P
of_none None P Q none said = said
of_none (Some x) P Q none said = absurd (false≢true (sym none))
