-- What is told after the cut to a budget.
use Rattle.std.proofs.Common.{◌↔◌, ℕ, List}
use Rattle.context_model.specs.declared.Form.{Form}
use Rattle.context_model.specs.Atoms.{Atom}
use Rattle.context_model.specs.Orders.{Path}
use Rattle.context_model.specs.Ended.{IsEnded}
use Rattle.context_model.specs.Merged.{HasPaths}
use Rattle.context_model.specs.Trimmed.{trimmed}
use Rattle.context_model.specs.WellFormed.{IsWellFormed}
use Rattle.bag_model.specs.Shapes.{Shape, Nodes}
use Rattle.bag_model.specs.Values.{Value}
use Rattle.bag_model.specs.Readings.{PathsOf, Reads}
use Rattle.trace_model.proofs.CutReadingLaws.{cuts_say_what_was_said}
use Rattle.keep_calls.specs.declared.others.Others.TheVariants.{Cut}
use Rattle.keep_calls.specs.Laws.{KeepsList, CutsAreToldWithin}
use Rattle.keep_calls.proofs.KeptLaws.{cuts_are_told}

module _ (nodes : Nodes) (form : Form) (budget : ℕ) (list kept : List Atom) (k : KeepsList nodes Cut list kept) where
  well_formed : IsWellFormed kept
  well_formed = (k.holds).well_formed

  kept_ended : (s : Path) → IsEnded (trimmed form kept budget) s → IsEnded kept s
  kept_ended s e = (cuts_say_what_was_said).ended form kept budget s well_formed e

  told_ended : (s : Path) → IsEnded (trimmed form kept budget) s → IsEnded list s
  told_ended s e = (cuts_are_told nodes list kept k).ended s (kept_ended s e)

  told_reads : (shape : Shape) (s : Path) (v : Value) → IsEnded (trimmed form kept budget) s
      → Reads shape (PathsOf (trimmed form kept budget)) s v ↔ Reads shape (PathsOf list) s v
  told_reads shape s v e =
      let cut : Reads shape (PathsOf (trimmed form kept budget)) s v ↔ Reads shape (PathsOf kept) s v = (cuts_say_what_was_said).reads form kept budget shape s v well_formed e in
      let told : Reads shape (PathsOf kept) s v ↔ Reads shape (PathsOf list) s v = (cuts_are_told nodes list kept k).reads shape s v (kept_ended s e) in
      ((λ r. told.0 (cut.0 r)), λ r. cut.1 (told.1 r))

pub cuts_are_told_within : CutsAreToldWithin
cuts_are_told_within = record {
  ended = λ nodes form budget list kept s k e. told_ended nodes form budget list kept k s e;
  reads = λ nodes form budget list kept shape s v k e. told_reads nodes form budget list kept k shape s v e;
}
