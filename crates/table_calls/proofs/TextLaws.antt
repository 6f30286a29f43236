-- What a call does under tables that were read is what the call by their texts does.
use Rattle.std.specs.Prelude.{ℕ, List, Result, Ok, Err}
use Rattle.bag_model.specs.Shapes.{Nodes}
use Rattle.field_calls.specs.Fields.{IsPrintedTable}
use Rattle.table_calls.specs.declared.evolution.Change.{Change}
use Rattle.table_calls.specs.declared.refusals.TableRefusal.{TableRefusal}
use Rattle.table_calls.specs.declared.refusals.TableRefusal.TheVariants.{Table, Fault, IllTyped, Memory, Room}
use Rattle.table_calls.specs.declared.reports.ReportForm.{ReportForm}
use Rattle.table_calls.specs.Evolution.{ComparesInto, ComparesUnder}
use Rattle.table_calls.specs.Reports.{ReportsInto, ReportsUnder}

-- What is reported under the table is reported by its text.
pub reports_by_text : (report : ReportForm) (nodes : Nodes) (table bytes old new : List ℕ) (result : Result ℕ TableRefusal) → IsPrintedTable nodes table
    → ReportsUnder report nodes bytes old new result → ReportsInto report table bytes old new result
reports_by_text report nodes table bytes old new (Ok size) printed (text, told, holds) = (nodes, printed, text, told, holds)
reports_by_text report nodes table bytes old new (Err (Room size)) printed (text, told, short) = (nodes, printed, text, told, short)
reports_by_text report nodes table bytes old new (Err (Table which line code)) printed none = absurd none
reports_by_text report nodes table bytes old new (Err Memory) printed same = same
reports_by_text report nodes table bytes old new (Err (Fault offset code)) printed (unread, same) = (nodes, printed, unread, same)
reports_by_text report nodes table bytes old new (Err (IllTyped offset)) printed (unread, same) = (nodes, printed, unread, same)

-- What the comparison of two tables comes to is what that of their texts comes to.
pub compares_by_text : (a b : Nodes) (old next before after : List ℕ) (result : Result (Change × ℕ) TableRefusal) → IsPrintedTable a old → IsPrintedTable b next
    → ComparesUnder a b before after result → ComparesInto old next before after result
compares_by_text a b old next before after (Ok answer) first second (line, compared, holds) = (a, b, first, second, (line, compared, holds))
compares_by_text a b old next before after (Err (Room size)) first second (change, line, compared, short) = (a, b, first, second, (change, line, compared, short))
compares_by_text a b old next before after (Err Memory) first second same = same
compares_by_text a b old next before after (Err (Table which line code)) first second none = absurd none
compares_by_text a b old next before after (Err (Fault offset code)) first second none = absurd none
compares_by_text a b old next before after (Err (IllTyped offset)) first second none = absurd none
