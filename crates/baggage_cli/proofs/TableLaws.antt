-- What files give as a table.
use Rattle.std.proofs.Common.{◌≡◌, inl, inr, ℕ, List, Option, Some, None, Result, Ok, Err, sym, ap, ◌∙◌, subst, arith}
use Rattle.bag_model.specs.Shapes.{Nodes}
use Rattle.bag_model.specs.Tables.{IsTable}
use Rattle.bdl_load.specs.declared.faults.Fault.{Fault}
use Rattle.bdl_load.specs.Loading.{Holding}
use Rattle.bdl_check.specs.Compiler.{IsTableOf, IsFirstFaultOf}
use Rattle.table_text.specs.declared.faults.TableCode.{TableCode}
use Rattle.table_text.specs.Reading.{IsTableFault}
use Rattle.table_text.specs.TableTexts.{table_text}
use Rattle.baggage_cli.specs.declared.refusals.Refusal.{Refusal}
use Rattle.baggage_cli.specs.Refusals.{blamed}
use Rattle.baggage_cli.specs.Tables.{Origin, compiled, printed, IsPrinted, PrintedGives, TableGives}

-- ---- printed tables

module _
    (one_text : (a b : Nodes) → IsTable a → IsTable b → table_text a ≡ table_text b → a ≡ b)
    (no_fault_printed : (table : Nodes) (line : ℕ) (code : TableCode) → IsTable table → IsTableFault (table_text table) line code → ⊥)
    (one_first : (text : List ℕ) (m n : ℕ) (c d : TableCode) → IsTableFault text m c → IsTableFault text n d → (m ≡ n) × (c ≡ d))
  where
    -- A file gives one thing as a table.
    printed_gives_one : (file : List ℕ) (content : Option (List ℕ)) (a b : Result Nodes Refusal) → PrintedGives file content a → PrintedGives file content b → a ≡ b
    printed_gives_one file None (Ok table) b gives also = absurd gives
    printed_gives_one file None (Err r) (Ok table) gives also = absurd also
    printed_gives_one file None (Err r) (Err s) gives also = ap Err (gives ∙ sym also)
    printed_gives_one file (Some text) (Ok a) (Ok b) (short, is, text_is) (few, also, other) = ap Ok (one_text a b is also (sym text_is ∙ other))
    printed_gives_one file (Some text) (Ok a) (Err s) (short, is, text_is) (inl long) = absurd (let above = long.0 in omega (arith, short, above))
    printed_gives_one file (Some text) (Ok a) (Err s) (short, is, text_is) (inr (few, (line, code, bad, s_is))) = absurd (no_fault_printed a line code is (subst (λ t. IsTableFault t line code) text_is bad))
    printed_gives_one file (Some text) (Err r) (Ok b) (inl long) (short, is, text_is) = absurd (let above = long.0 in omega (arith, short, above))
    printed_gives_one file (Some text) (Err r) (Ok b) (inr (few, (line, code, bad, r_is))) (short, is, text_is) = absurd (no_fault_printed b line code is (subst (λ t. IsTableFault t line code) text_is bad))
    printed_gives_one file (Some text) (Err r) (Err s) (inl (long, r_is)) (inl (longer, s_is)) = ap Err (r_is ∙ sym s_is)
    printed_gives_one file (Some text) (Err r) (Err s) (inl (long, r_is)) (inr (few, bad)) = absurd (omega (arith, long, few))
    printed_gives_one file (Some text) (Err r) (Err s) (inr (few, bad)) (inl (long, s_is)) = absurd (omega (arith, long, few))
    printed_gives_one file (Some text) (Err r) (Err s) (inr (few, (m, c, bad, r_is))) (inr (short, (n, d, worse, s_is))) =
        let same = one_first text m n c d bad worse in
        let lines = same.0 in
        let names = same.1 in
        cc (r_is, s_is, lines, names)

-- What it gives is a table.
printed_is_table : (content : Option (List ℕ)) (table : Nodes) → IsPrinted content table → IsTable table
printed_is_table None table is = absurd is
printed_is_table (Some text) table is = is.1

printed_given : (file : List ℕ) (held : Holding) (outcome : Result Nodes Refusal) → TableGives (printed file) held outcome → PrintedGives file (held file) outcome
printed_given file held (Ok table) gives = gives
printed_given file held (Err refusal) gives = gives

-- ---- all tables

module _
    (one_text : (a b : Nodes) → IsTable a → IsTable b → table_text a ≡ table_text b → a ≡ b)
    (no_fault_printed : (table : Nodes) (line : ℕ) (code : TableCode) → IsTable table → IsTableFault (table_text table) line code → ⊥)
    (one_first : (text : List ℕ) (m n : ℕ) (c d : TableCode) → IsTableFault text m c → IsTableFault text n d → (m ≡ n) × (c ≡ d))
    (one_table : (held : Holding) (root name : List ℕ) (table other : Nodes) → IsTableOf held root name table → IsTableOf held root name other → table ≡ other)
    (no_fault : (held : Holding) (root name : List ℕ) (table : Nodes) (fault : Fault) → IsTableOf held root name table → IsFirstFaultOf held root name fault → ⊥)
    (one_fault : (held : Holding) (root name : List ℕ) (fault other : Fault) → IsFirstFaultOf held root name fault → IsFirstFaultOf held root name other → fault ≡ other)
  where
    -- Files give one thing as a table.
    pub files_give_one : (origin : Origin) (held : Holding) (a b : Result Nodes Refusal) → TableGives origin held a → TableGives origin held b → a ≡ b
    files_give_one (compiled file bag) held (Ok table) (Ok other) is also = ap Ok (one_table held file bag table other is also)
    files_give_one (compiled file bag) held (Ok table) (Err refusal) is (fault, first, blames) = absurd (no_fault held file bag table fault is first)
    files_give_one (compiled file bag) held (Err refusal) (Ok table) (fault, first, blames) is = absurd (no_fault held file bag table fault is first)
    files_give_one (compiled file bag) held (Err r) (Err s) (fault, first, r_is) (other, also, s_is) =
        ap Err (r_is ∙ ap blamed (one_fault held file bag fault other first also) ∙ sym s_is)
    files_give_one (printed file) held a b gives also =
        printed_gives_one one_text no_fault_printed one_first file (held file) a b (printed_given file held a gives) (printed_given file held b also)

-- What they give is a table.
pub files_give_tables : ((held : Holding) (root name : List ℕ) (table : Nodes) → IsTableOf held root name table → IsTable table)
    → (origin : Origin) (held : Holding) (table : Nodes) → TableGives origin held (Ok table) → IsTable table
files_give_tables of_definitions (compiled file bag) held table is = of_definitions held file bag table is
files_give_tables of_definitions (printed file) held table is = printed_is_table (held file) table is
