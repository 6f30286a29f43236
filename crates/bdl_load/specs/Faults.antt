-- Faults of a definition: at a place of a file, and with the file's name.
use Rattle.std.specs.Prelude.{◌≡◌, ℕ, List}
use Rattle.outside.specs.declared.answers.LibraryFault.{LibraryFault}
use Rattle.outside.specs.declared.answers.LibraryFault.TheVariants.{Failed as LibraryFailed, Memory as LibraryMemory}
use Rattle.outside.specs.declared.answers.OrMemory.{OrMemory}
use Rattle.outside.specs.declared.answers.OrMemory.TheVariants as refusals
use Rattle.bdl_parser.specs.declared.trees.Spot.{Spot}
use Rattle.bdl_load.specs.declared.faults.DefCode.{DefCode}
use Rattle.bdl_load.specs.declared.faults.DefFault.{DefFault}
use Rattle.bdl_load.specs.declared.faults.DefFault.TheVariants.{At, Failed, Memory}
use Rattle.bdl_load.specs.declared.faults.Fault.{Fault}
use Rattle.bdl_load.specs.declared.faults.Finding.{Finding}

-- A fault of this code at this place.
abbrev pub found : Spot → DefCode → Finding
found spot code = record { at = spot; code = code }

-- A fault at its place in the file of this name.
abbrev pub fault_in : List ℕ → Finding → Fault
fault_in file finding =
    record { file = file; line = finding.at.line; column = finding.at.column; code = finding.code }

-- The answer blames a fault of which this holds, or it blames no file.
abbrev pub Blames : (Fault → Type 0) → DefFault → Type 0
Blames Holds (At file line column code) =
    Holds (record { file = file; line = line; column = column; code = code })
Blames Holds Failed = Unit {0}
Blames Holds Memory = Unit {0}

-- The answer where a library fails.
abbrev pub of_library : LibraryFault → DefFault
of_library LibraryFailed = Failed
of_library LibraryMemory = Memory

-- The answer blames the fault of the refusal, or says that memory is out.
abbrev pub IsAnswerOf : OrMemory Fault → DefFault → Type 0
IsAnswerOf (refusals.Fault fault) answer = answer ≡ At fault.file fault.line fault.column fault.code
IsAnswerOf refusals.Memory answer = answer ≡ Memory
