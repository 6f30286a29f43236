-- The texts of faults.
use Rattle.std.specs.Prelude.{ℕ, List, ◌++◌, codes}
use Rattle.std.specs.Fmt.{decimal}
use Rattle.bdl_load.specs.CodeNames.{def_name}
use Rattle.bdl_load.specs.declared.faults.DefCode.{DefCode}
use Rattle.bdl_load.specs.declared.faults.DefFault.{DefFault}
use Rattle.bdl_load.specs.declared.faults.DefFault.TheVariants as faults

-- The file, the line, the byte of it, and the code.
abbrev pub place_text : List ℕ → ℕ → ℕ → DefCode → List ℕ
place_text file line column code =
    file ++ (codes " " ++
    (decimal line ++ (codes ":" ++ (decimal column ++ (codes " " ++ def_name code)))))

-- The text of what keeps a definition from being a table.
abbrev pub def_fault_text : DefFault → List ℕ
def_fault_text (faults.At file line column code) = place_text file line column code
def_fault_text faults.Failed = codes "failed outside"
def_fault_text faults.Memory = codes "out of memory"
