-- Texts of tables.
use Rattle.std.proofs.Common.{◌≡◌, inl, inr, ℕ, List, [], refl, sym, subst}
use Rattle.bag_model.specs.Shapes.{Nodes}
use Rattle.bag_model.specs.Tables.{IsTable}
use Rattle.text_lines.specs.Readings.{AllSay, IsFirstBad}
use Rattle.text_lines.proofs.ReadingLaws.{all_say_one, good_not_bad}
use Rattle.table_text.specs.declared.faults.TableCode.{TableCode}
use Rattle.table_text.specs.Rules.{field_lines}
use Rattle.table_text.specs.Reading.{lines_behind, IsTableFault}
use Rattle.table_text.specs.TableRows.{rows_of}
use Rattle.table_text.specs.TableTexts.{fields_text, table_text}
use Rattle.table_text.proofs.Complete.{table_says}
use Rattle.table_text.proofs.Definite.{is_definite, no_head_fault, one_rest}
use Rattle.table_text.proofs.OneTable.{one_table}

pub one_printed : (a b : Nodes) → IsTable a → IsTable b → table_text a ≡ table_text b → a ≡ b
one_printed a b p q e =
    let rest : fields_text 0 a ≡ fields_text 0 b = one_rest (fields_text 0 a) (fields_text 0 b) e in
    one_table a b
    (all_say_one field_lines is_definite (lines_behind (fields_text 0 a)) (rows_of 0 a) (rows_of 0 b) (table_says a p)
    (subst (λ (r : List ℕ). AllSay field_lines [] (lines_behind r) (rows_of 0 b)) (sym rest) (table_says b q)))

pub no_fault : (nodes : Nodes) (line : ℕ) (code : TableCode) → IsTable nodes → IsTableFault (table_text nodes) line code → ⊥
no_fault nodes line code is (inl p) = no_head_fault (table_text nodes) (fields_text 0 nodes) code refl p.1
no_fault nodes line code is (inr (rest, same, bad)) =
    good_not_bad field_lines is_definite (lines_behind (fields_text 0 nodes)) (rows_of 0 nodes) line code (table_says nodes is)
    (subst (λ (r : List ℕ). IsFirstBad field_lines (lines_behind r) line code) (one_rest rest (fields_text 0 nodes) (sym same)) bad)
