-- What a cut list says of the list that was cut.
use Rattle.std.specs.Prelude.{◌↔◌, ℕ, List}
use Rattle.context_model.specs.declared.Form.{Form}
use Rattle.context_model.specs.Atoms.{Atom}
use Rattle.context_model.specs.Orders.{Path}
use Rattle.context_model.specs.WellFormed.{IsWellFormed}
use Rattle.context_model.specs.Ended.{IsEnded}
use Rattle.context_model.specs.Trimmed.{trimmed}
use Rattle.bag_model.specs.Shapes.{Shape}
use Rattle.bag_model.specs.Values.{Value}
use Rattle.bag_model.specs.Readings.{PathsOf, Reads}

-- What a list that was cut says as ended was said before the cut, whatever table reads it: what is
-- ended in it was ended in the list, and the same value is read there.
pub record CutsSayWhatWasSaid : Type 0 where
  pub ended : (form : Form) (list : List Atom) (budget : ℕ) (s : Path)
      → IsWellFormed list → IsEnded (trimmed form list budget) s → IsEnded list s
  pub reads : (form : Form) (list : List Atom) (budget : ℕ) (shape : Shape) (s : Path) (v : Value)
      → IsWellFormed list → IsEnded (trimmed form list budget) s
      → Reads shape (PathsOf (trimmed form list budget)) s v ↔ Reads shape (PathsOf list) s v
