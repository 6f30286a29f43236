-- The texts of faults.
use Rattle.std.specs.Prelude.{ℕ, List, ◌++◌, codes}
use Rattle.std.specs.Fmt.{decimal}
use Rattle.bdl_parser.specs.declared.ParseCode.{ParseCode}
use Rattle.bdl_parser.specs.declared.ParseCode.TheVariants as parses
use Rattle.bdl_parser.specs.declared.ParseFault.{ParseFault}
use Rattle.bdl_parser.specs.declared.ParseFault.TheVariants as faults

-- The name of a code, as it is printed.
abbrev pub parse_name : ParseCode → List ℕ
parse_name parses.Expected = codes "Expected"
parse_name parses.TypeNesting = codes "TypeNesting"

-- The text of a fault: how many tokens come before it, and its code.
abbrev pub parse_fault_text : ParseFault → List ℕ
parse_fault_text (faults.At token code) =
    codes "token " ++ (decimal token ++ (codes " " ++ parse_name code))
parse_fault_text faults.Memory = codes "out of memory"
