use Rattle.std.proofs.Common.{◌≡◌, ℕ, ◌<◌, Some}
use Rattle.std.specs.List.{slice_get}
use Rattle.bag_model.specs.Shapes.{Field, fields}
use Rattle.field_table.specs.Plain.{nodes_of}
use Rattle.field_writes.proofs.writes.place_named.Given as goal

abbrev pub invariant-loop-at : goal.invariant-loop-at
invariant-loop-at l = (i : ℕ) (f : Field) → i < l.at → slice_get (fields (nodes_of l.fields)) i ≡ Some f → f.name ≡ l.name → ⊥
