-- The table of a bag, or the first fault of a definition.
use Rattle.std.specs.Prelude.{◌≡◌, ℕ, Some, List, []}
use Rattle.bag_model.specs.Shapes.{Nodes}
use Rattle.bdl_check.specs.Checks.{declared_faults}
use Rattle.bdl_check.specs.Declarations.{all_placed}
use Rattle.bdl_check.specs.Faults.{first}
use Rattle.bdl_check.specs.Recursion.{IsAcyclic, IsRecursive}
use Rattle.bdl_check.specs.Tables.{IsTableAmong, IsUntabled}
use Rattle.bdl_load.specs.declared.faults.Fault.{Fault}
use Rattle.bdl_load.specs.declared.files.LoadedFile.{LoadedFile}
use Rattle.bdl_load.specs.Loading.{Holding, Loads, all_loaded, stopped, OfLibrary, AsksAll}
use Rattle.outside.specs.Transfers.{Files, Asked}

-- The declarations of all files have no fault, and no bag contains itself.
pub record AreFaultless (files : List LoadedFile) : Type 0 where
  pub declared : declared_faults files ≡ []
  pub acyclic : IsAcyclic (all_placed files)

-- The table of the bag of this name in these files.
pub record IsTableIn (files : List LoadedFile) (name : List ℕ) (nodes : Nodes) : Type 0 where
  pub sound : AreFaultless files
  pub table : IsTableAmong (all_placed files) name nodes

-- The first fault of these files, asked for the bag of this name: of the declarations, of bags
-- inside themselves, or of the bag.
pub data IsFaultIn (files : List LoadedFile) (root name : List ℕ) (fault : Fault) : Type 0 where
  declared : first (declared_faults files) ≡ Some fault → IsFaultIn files root name fault
  recursive : declared_faults files ≡ [] → IsRecursive (all_placed files) fault
      → IsFaultIn files root name fault
  untabled : AreFaultless files → IsUntabled (all_placed files) root name fault
      → IsFaultIn files root name fault

-- The table of the bag of this name in the definition with this root.
pub record IsTableOf (held : Holding) (root name : List ℕ) (nodes : Nodes) : Type 0 where
  pub files : List LoadedFile
  pub loaded : Loads held root (all_loaded files)
  pub table : IsTableIn files name nodes

-- The first fault of the definition with this root, asked for the bag of this name: of loading, or
-- of the files that were loaded.
pub data IsFirstFaultOf (held : Holding) (root name : List ℕ) (fault : Fault) : Type 0 where
  unloaded : (names : List (List ℕ)) → Loads held root (stopped names fault)
      → IsFirstFaultOf held root name fault
  loaded : (files : List LoadedFile) → Loads held root (all_loaded files)
      → IsFaultIn files root name fault → IsFirstFaultOf held root name fault

-- The fact holds of the files that a library holds, and loading asked it for all names that it asks
-- for, and for no others.
abbrev pub CameOf : Files → Asked → Asked → List ℕ → (Holding → Type 0) → Type 0
CameOf files before after root Holds =
    OfLibrary files before after (λ held names. Holds held × AsksAll held root names)
