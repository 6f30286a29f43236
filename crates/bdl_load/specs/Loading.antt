-- The files of a definition in the order of fetching, or the first fault of loading.
use Rattle.std.specs.Prelude.{◌≡◌, ℕ, ◌<◌, ◌≤◌, Bool, true, false, Option, None, Some, IfSome, List, [], ◌∷◌, ◌++◌, ◌-◌, length, take, map}
use Rattle.std.specs.List.{AllByRecursion, list_any}
use Rattle.std.specs.Str.{bytes_eq}
use Rattle.bdl_load.specs.declared.faults.TheConstants.{FIRST_SPOT}
use Rattle.bdl_load.specs.declared.loader.TheConstants.{FILES_MAX}
use Rattle.outside.specs.Transfers.{Files, Asked, Asks}
use Rattle.bdl_parser.specs.declared.trees.Import.{Import}
use Rattle.bdl_parser.specs.declared.trees.Module.{Module}
use Rattle.bdl_load.specs.declared.faults.DefCode.TheVariants.{NoFile, ImportCycle, TooManyFiles, ImportMissing}
use Rattle.bdl_load.specs.declared.faults.Fault.{Fault}
use Rattle.bdl_load.specs.declared.faults.Finding.{Finding}
use Rattle.bdl_load.specs.declared.files.LoadedFile.{LoadedFile}
use Rattle.bdl_load.specs.Faults.{found, fault_in}
use Rattle.bdl_load.specs.Source.{SaysModule, IsSourceFault}

-- What a library holds under each name.
abbrev pub Holding : Type 0
Holding = List ℕ → Option (List ℕ)

-- Whether a name is one of these.
abbrev pub is_among : List ℕ → List (List ℕ) → Bool
is_among name names = list_any (bytes_eq name) names

-- The names of files.
abbrev pub file_names : List LoadedFile → List (List ℕ)
file_names files = map (λ file. file.name) files

-- The file of this name with this module.
abbrev pub loaded_as : List ℕ → Module → LoadedFile
loaded_as name module_ = record { name = name; «module» = module_ }

-- What loading comes to: all files, in the order of fetching, or the first fault after the names
-- that were asked for.
pub data Loading : Type 0 where
  all_loaded : List LoadedFile → Loading
  stopped : List (List ℕ) → Fault → Loading

-- The file is fetched: its imports aren't being taken, it wasn't loaded before, and fewer than
-- `FILES_MAX` files were.
pub record IsFetched (taking : List (List ℕ)) (files : List LoadedFile)
    (name : List ℕ) : Type 0 where
  pub closed : is_among name taking ≡ false
  pub fresh : is_among name (file_names files) ≡ false
  pub room : length files < FILES_MAX

-- Below, `taking` are the names of the files whose imports are being taken, and `files` are those
-- that were fetched so far.
mutual
  -- What comes of a file that is held: its own first fault, or what comes of its imports.
  pub data Enters (held : Holding) : List (List ℕ) → List LoadedFile → List ℕ → List ℕ → Loading
      → Type 0 where
    broken : (taking : List (List ℕ)) (files : List LoadedFile) (name source : List ℕ)
        (finding : Finding)
        → IsSourceFault source finding
        → Enters held taking files name source
        (stopped (file_names files ++ name ∷ []) (fault_in name finding))
    read : (taking : List (List ℕ)) (files : List LoadedFile) (name source : List ℕ)
        (module_ : Module) (outcome : Loading)
        → SaysModule source module_
        → Takes held (taking ++ name ∷ [])
        (files ++ loaded_as name module_ ∷ []) name module_.imports outcome
        → Enters held taking files name source outcome

  -- What comes of the imports of the file of this name, which are taken one after another, each
  -- whole before the next.
  pub data Takes (held : Holding) : List (List ℕ) → List LoadedFile → List ℕ → List Import → Loading
      → Type 0 where
    none_left : (taking : List (List ℕ)) (files : List LoadedFile) (from : List ℕ)
        → Takes held taking files from [] (all_loaded files)
    cycle : (taking : List (List ℕ)) (files : List LoadedFile) (from : List ℕ) (import : Import)
        (rest : List Import)
        → is_among import.file taking ≡ true
        → Takes held taking files from (import ∷ rest)
        (stopped (file_names files) (fault_in from (found import.at ImportCycle)))
    known : (taking : List (List ℕ)) (files : List LoadedFile) (from : List ℕ) (import : Import)
        (rest : List Import) (outcome : Loading)
        → is_among import.file taking ≡ false → is_among import.file (file_names files) ≡ true
        → Takes held taking files from rest outcome
        → Takes held taking files from (import ∷ rest) outcome
    too_many : (taking : List (List ℕ)) (files : List LoadedFile) (from : List ℕ) (import : Import)
        (rest : List Import)
        → is_among import.file taking ≡ false → is_among import.file (file_names files) ≡ false
        → FILES_MAX ≤ length files
        → Takes held taking files from (import ∷ rest)
        (stopped (file_names files) (fault_in from (found import.at TooManyFiles)))
    missing : (taking : List (List ℕ)) (files : List LoadedFile) (from : List ℕ) (import : Import)
        (rest : List Import)
        → IsFetched taking files import.file → held import.file ≡ None
        → Takes held taking files from (import ∷ rest)
        (stopped (file_names files ++ import.file ∷ [])
        (fault_in from (found import.at ImportMissing)))
    within : (taking : List (List ℕ)) (files : List LoadedFile) (from source : List ℕ)
        (import : Import) (rest : List Import) (names : List (List ℕ)) (fault : Fault)
        → IsFetched taking files import.file → held import.file ≡ Some source
        → Enters held taking files import.file source (stopped names fault)
        → Takes held taking files from (import ∷ rest) (stopped names fault)
    fetched : (taking : List (List ℕ)) (files more : List LoadedFile) (from source : List ℕ)
        (import : Import) (rest : List Import) (outcome : Loading)
        → IsFetched taking files import.file → held import.file ≡ Some source
        → Enters held taking files import.file source (all_loaded more)
        → Takes held taking more from rest outcome
        → Takes held taking files from (import ∷ rest) outcome

-- What comes of a definition whose root is the file of this name.
pub data Loads (held : Holding) (root : List ℕ) (outcome : Loading) : Type 0 where
  no_root : held root ≡ None
      → outcome ≡ stopped (root ∷ []) (fault_in root (found FIRST_SPOT NoFile))
      → Loads held root outcome
  from_root : (source : List ℕ) → held root ≡ Some source → Enters held [] [] root source outcome
      → Loads held root outcome

-- ---- the names that are asked for

-- The names that were asked for, in order.
abbrev pub names_asked : Loading → List (List ℕ)
names_asked (all_loaded files) = file_names files
names_asked (stopped names fault) = names

-- Loading asks for these names, in this order, and for no others.
abbrev pub AsksAll : Holding → List ℕ → List (List ℕ) → Type 0
AsksAll held root names =
    (outcome : Loading) × Loads held root outcome × (names ≡ names_asked outcome)

-- Two holdings have the same under each of these names but the last.
abbrev pub AgreeButLast : List (List ℕ) → Holding → Holding → Type 0
AgreeButLast names held other =
    AllByRecursion (λ name. other name ≡ held name) (take (length names - 1) names)

-- Loading asks for these names first, in this order: some files that are the same under each of
-- them but the last have a loading that asks for them and for no others.
abbrev pub AsksFirst : Holding → List ℕ → List (List ℕ) → Type 0
AsksFirst held root names =
    (other : Holding) × AgreeButLast names held other × AsksAll other root names

-- The fact holds of the files of a library and of the names that it was asked for. A library that
-- doesn't tell held some files and was asked for some names of which the fact holds.
abbrev pub OfLibrary : Files → Asked → Asked → (Holding → List (List ℕ) → Type 0) → Type 0
OfLibrary files before after Holds =
    (held : Holding) × (names : List (List ℕ)) × IfSome files (λ told. told ≡ held)
    × Asks names before after × Holds held names

-- Below, `files` and `asked` say what a library holds and was asked for; it went from the state
-- `before` to the state `after`.
module _ {S : Type 0} (files : S → Files) (asked : S → Asked) (before after : S)
    (root : List ℕ) where
  -- All files of a definition were loaded, and the library was asked for each of them and for
  -- nothing else.
  abbrev pub LoadsAll : List LoadedFile → Type 0
  LoadsAll loaded =
      OfLibrary (files before) (asked before) (asked after)
      (λ held names. Loads held root (all_loaded loaded) × (names ≡ file_names loaded))

  -- Loading stopped at this fault after the names that the library was asked for.
  abbrev pub StopsAt : Fault → Type 0
  StopsAt fault =
      OfLibrary (files before) (asked before) (asked after)
      (λ held names. Loads held root (stopped names fault))

  -- The names that the library was asked for are the first that loading asks for.
  abbrev pub AsksInOrder : Type 0
  AsksInOrder =
      OfLibrary (files before) (asked before) (asked after)
      (λ held names. AsksFirst held root names)
