-- All faults of the declarations, in the order in which they count.
use Rattle.std.specs.Prelude.{ℕ, Bool, List, [], ◌∷◌, ◌++◌, map}
use Rattle.std.specs.List.{flat_map}
use Rattle.std.specs.Option.{is_some}
use Rattle.bdl_load.specs.declared.faults.DefCode.TheVariants.{DuplicateName}
use Rattle.bdl_load.specs.declared.faults.Finding.{Finding}
use Rattle.bdl_load.specs.declared.files.LoadedFile.{LoadedFile}
use Rattle.bdl_check.specs.Declarations.{Placed, decl_name, decl_place, all_placed, kind_named}
use Rattle.bdl_check.specs.Faults.{when}
use Rattle.bdl_load.specs.declared.faults.Fault.{Fault}
use Rattle.bdl_load.specs.Faults.{found, fault_in}
use Rattle.bdl_check.specs.Fields.{decl_faults}
use Rattle.bdl_check.specs.Types.{Kinds}
use Rattle.bdl_parser.specs.declared.trees.Decl.{Decl}

-- The findings as faults in the file of this name.
abbrev pub faults_in_file : List ℕ → List Finding → List Fault
faults_in_file file findings = map (fault_in file) findings

-- The fault of a declaration whose name an earlier one has.
abbrev pub name_fault : Bool → Decl → List Finding
name_fault is_taken decl = when is_taken (found (decl_place decl) DuplicateName)

-- The faults of the declarations' names after the earlier declarations.
abbrev pub name_faults : List Placed → List Placed → List Fault
name_faults earlier [] = []
name_faults earlier (d ∷ ds) =
    faults_in_file d.file (name_fault (is_some (kind_named earlier (decl_name d.decl))) d.decl)
    ++ name_faults (earlier ++ d ∷ []) ds

-- The faults of each declaration.
abbrev pub declaration_faults : Kinds → List Placed → List Fault
declaration_faults kinds ds = flat_map (λ d. faults_in_file d.file (decl_faults kinds d.decl)) ds

-- The faults of declarations: first those of all names, and then those of what each says.
abbrev pub placed_faults : List Placed → List Fault
placed_faults ds = name_faults [] ds ++ declaration_faults (kind_named ds) ds

-- The faults of the declarations of all files, in the order in which they count.
abbrev pub declared_faults : List LoadedFile → List Fault
declared_faults files = placed_faults (all_placed files)
