-- What is cut to a buffer's length has room in it.
use Rattle.std.proofs.Common.{◌≡◌, inl, inr, ℕ, ◌<◌, ◌≤◌, List, [], ◌∷◌, length, Result, Ok, Err, sym, ap, ◌∙◌, subst, arith}
use Rattle.std.proofs.lemmas.Bool.{cases_lt}
use Rattle.context_model.specs.declared.Form.{Form}
use Rattle.context_model.specs.declared.Form.TheVariants.{One}
use Rattle.context_model.specs.Atoms.{Atom}
use Rattle.context_model.specs.Framing.{bytes_of, size_of, least_budget}
use Rattle.context_model.specs.Trimmed.{trimmed}
use Rattle.context_model.proofs.TrimmedLaws.{trimmed-fits, trimmed-cut, keeps_longest}
use Rattle.byte_forward.specs.declared.refusals.ByteRefusal.{ByteRefusal}
use Rattle.byte_forward.specs.declared.refusals.ByteRefusal.TheVariants.{Fault, Room}
use Rattle.byte_forward.specs.Contexts.{IsFaultAt}
use Rattle.byte_forward.specs.Calls.{IsCutMergeOf}
use Rattle.byte_forward.specs.Room.{WritesBytes}
use Rattle.forwarding.specs.Forwards.{Forwards}

-- A cut list fits the budget.
fits : (form : Form) (list : List Atom) (budget : ℕ) → least_budget form ≤ budget → size_of form (trimmed form list budget) ≤ budget
fits form list budget some = elim (cases_lt budget (size_of form list)) [
  | inl over ↦ subst (λ cut. size_of form cut ≤ budget) (sym (trimmed-cut form list budget over)) ((keeps_longest form list budget some over).fits)
  | inr within ↦ subst (λ cut. size_of form cut ≤ budget) (sym (trimmed-fits form list budget within)) within
]

-- So a buffer of as many bytes isn't too short.
pub forwards : (first second old new : List ℕ) (result : Result ℕ ByteRefusal) → 0 < length old
    → WritesBytes One (IsCutMergeOf One (length old) (first ∷ second ∷ [])) (IsFaultAt (first ∷ second ∷ [])) old new result → Forwards first second old new result
forwards first second old new (Ok size) some written = written
forwards first second old new (Err (Fault context offset code)) some written = written
forwards first second old new (Err (Room size)) some (sent, (merged, of, is), short) =
    let small : length (bytes_of One sent) ≤ length old = subst (λ cut. length (bytes_of One cut) ≤ length old) (sym is) (fits One merged (length old) (omega arith)) in
    absurd (omega (arith, short.0, short.1, small))
