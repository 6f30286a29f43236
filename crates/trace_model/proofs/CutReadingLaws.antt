-- What a cut list says of the list that was cut.
use Rattle.std.proofs.Common.{inl, inr, ℕ, List, sym, subst}
use Rattle.std.proofs.lemmas.Bool.{cases_lt}
use Rattle.context_model.specs.declared.Form.{Form}
use Rattle.context_model.specs.Atoms.{Atom}
use Rattle.context_model.specs.Framing.{size_of}
use Rattle.context_model.specs.Orders.{Path}
use Rattle.context_model.specs.WellFormed.{IsWellFormed}
use Rattle.context_model.specs.Ended.{IsEnded}
use Rattle.context_model.specs.Trimmed.{kept_of, trimmed}
use Rattle.context_model.proofs.TrimmedLaws.{trimmed-fits, trimmed-cut}
use Rattle.bag_model.specs.Readings.{PathsOf}
use Rattle.bag_model.proofs.PathSets.{SameBelow}
use Rattle.bag_model.proofs.Unions.{Reads-alike}
use Rattle.trace_model.specs.CutReadings.{CutsSayWhatWasSaid}
use Rattle.trace_model.proofs.CutLists.{cut_same}
use Rattle.trace_model.proofs.Telling.{trimmed_ended}

-- Below a path that is ended in a trimmed list nothing is gone.
trimmed_same : (form : Form) (list : List Atom) (budget : ℕ) (s : Path) → IsWellFormed list → IsEnded (trimmed form list budget) s
    → SameBelow s (PathsOf (trimmed form list budget)) (PathsOf list)
trimmed_same form list budget s w e = elim (cases_lt budget (size_of form list)) [
  | inl over ↦ subst (λ l. SameBelow s (PathsOf l) (PathsOf list)) (sym (trimmed-cut form list budget over))
      (cut_same list (kept_of form list budget) w s (subst (λ l. IsEnded l s) (trimmed-cut form list budget over) e))
  | inr fits ↦ subst (λ l. SameBelow s (PathsOf l) (PathsOf list)) (sym (trimmed-fits form list budget fits))
      ((λ p b bytes i. i), λ p b bytes i. i)
]

pub cuts_say_what_was_said : CutsSayWhatWasSaid
cuts_say_what_was_said = record {
  ended = λ form list budget s w e. trimmed_ended form list budget s w e;
  reads = λ form list budget shape s v w e.
      let same : SameBelow s (PathsOf (trimmed form list budget)) (PathsOf list) = trimmed_same form list budget s w e in (
        Reads-alike shape (PathsOf (trimmed form list budget)) (PathsOf list) s v same,
        Reads-alike shape (PathsOf list) (PathsOf (trimmed form list budget)) s v (same.1, same.0),
      );
}
