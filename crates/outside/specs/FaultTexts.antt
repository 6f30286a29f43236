-- The texts of faults.
use Rattle.std.specs.Prelude.{ℕ, List, codes}
use Rattle.outside.specs.declared.answers.LibraryFault.{LibraryFault}
use Rattle.outside.specs.declared.answers.LibraryFault.TheVariants as libraries
use Rattle.outside.specs.declared.answers.ReadFault.{ReadFault}
use Rattle.outside.specs.declared.answers.ReadFault.TheVariants as reads

-- The text of a library's fault.
abbrev pub library_fault_text : LibraryFault → List ℕ
library_fault_text libraries.Failed = codes "failed outside"
library_fault_text libraries.Memory = codes "out of memory"

-- The text of a fault of reading.
abbrev pub read_fault_text : ReadFault → List ℕ
read_fault_text reads.Failed = codes "failed outside"
read_fault_text reads.TooLong = codes "TooLong"
read_fault_text reads.Memory = codes "out of memory"
