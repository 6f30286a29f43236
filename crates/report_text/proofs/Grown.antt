-- Texts that grew, step by step.
use Rattle.std.proofs.Common.{◌≡◌, ℕ, List, [], ◌++◌, sym, ap, ◌∙◌, append_assoc, append-nil, Result, Ok, Err, OnErr, IsErrAnd}
use Rattle.std.specs.Global.{Vec}
use Rattle.report_text.specs.Extension.{Extends, Appends}

-- Nothing was appended.
pub unchanged : (before after : List ℕ) → after ≡ before → Extends before after
unchanged before after same = record { part = []; stands = same ∙ sym (append-nil before) }

-- A part was.
pub appended : (before after part : List ℕ) → after ≡ before ++ part → Extends before after
appended before after part is = record { part = part; stands = is }

-- A text that grew from one that grew.
pub further : (before middle after : List ℕ) → Extends before middle → Extends middle after → Extends before after
further before middle after first second =
    record {
      part = first.part ++ second.part;
      stands = second.stands ∙ ap (λ (l : List ℕ). l ++ second.part) first.stands ∙ append_assoc before first.part second.part;
    }

-- A call that is refused after a text grew.
pub refused : {T E P : Type 0} (r : Result T E) → P → OnErr r P
refused (Ok x) p = tt
refused (Err e) p = p

-- A call that is refused after a text grew appends none.
pub cut_off : {E : Type 0} (Q : E → Type 0) (r : Result (Unit {0}) E) (text : List ℕ) (old new : Vec ℕ) → IsErrAnd r Q → Extends old.items new.items → Appends r text old new
cut_off Q (Ok x) text old new told grew = absurd told
cut_off Q (Err e) text old new told grew = record { ok = tt; err = grew }

-- The same, where a loop had put out an opening and some texts.
pub stopped : {E : Type 0} (Q : E → Type 0) (r : Result (Unit {0}) E) (text opening so_far : List ℕ) (old new : Vec ℕ) (before : List ℕ)
    → IsErrAnd r Q → before ≡ (old.items ++ opening) ++ so_far → Extends before new.items → Appends r text old new
stopped Q r text opening so_far old new before told come rest =
    cut_off Q r text old new told
    (further old.items before new.items (appended old.items before (opening ++ so_far) (come ∙ append_assoc old.items opening so_far)) rest)
