-- What is kept under a table that was read is what is kept by the table's text.
use Rattle.std.specs.Prelude.{ℕ, List, Result, Ok, Err}
use Rattle.context_model.specs.declared.Form.{Form}
use Rattle.bag_model.specs.Shapes.{Nodes}
use Rattle.field_calls.specs.Fields.{IsPrintedTable}
use Rattle.keep_calls.specs.declared.others.Others.{Others}
use Rattle.keep_calls.specs.declared.refusals.KeepRefusal.{KeepRefusal}
use Rattle.keep_calls.specs.declared.refusals.KeepRefusal.TheVariants.{Table, Fault, Memory, Room}
use Rattle.keep_calls.specs.Calls.{KeepsInto, KeepsUnder}

pub keeps_by_text : (form : Form) (others : Others) (budget : ℕ) (nodes : Nodes) (table : List ℕ) (inputs : List (List ℕ)) (old new : List ℕ) (result : Result ℕ KeepRefusal)
    → IsPrintedTable nodes table → KeepsUnder form others budget nodes inputs old new result → KeepsInto form others budget table inputs old new result
keeps_by_text form others budget nodes table inputs old new (Ok size) printed (list, kept, holds) = (nodes, printed, list, kept, holds)
keeps_by_text form others budget nodes table inputs old new (Err (Room size)) printed (list, kept, short) = (nodes, printed, list, kept, short)
keeps_by_text form others budget nodes table inputs old new (Err (Table line code)) printed none = absurd none
keeps_by_text form others budget nodes table inputs old new (Err (Fault context offset code)) printed (fault, same) = (nodes, printed, fault, same)
keeps_by_text form others budget nodes table inputs old new (Err Memory) printed same = same
