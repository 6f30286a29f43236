-- What the functions of the loader say: of one file, of the files so far, and of the answers of a
-- library.
use Rattle.std.specs.Prelude.{◌≡◌, ℕ, ◌+◌, ◌-◌, ◌<◌, ◌≤◌, true, false, Bool, Option, None, Some, IfSome, Result, OnOk, IfErr, IsErrOf, List, [], ◌∷◌, ◌++◌, length, take, drop, map}
use Rattle.std.specs.List.{All, AllByRecursion, IsDistinct, slice_index_or}
use Rattle.std.specs.Str.{bytes_eq}
use Rattle.bdl_load.specs.declared.loader.TheConstants.{FILES_MAX}
use Rattle.outside.specs.Causes.{Rose}
use Rattle.outside.specs.Transfers.{Files, Asked, Asks}
use Rattle.bdl_parser.specs.declared.trees.Import.{Import}
use Rattle.bdl_parser.specs.declared.trees.Module.{Module}
use Rattle.bdl_load.specs.declared.faults.DefFault.{DefFault}
use Rattle.bdl_load.specs.declared.faults.DefFault.TheVariants.{At, Failed, Memory}
use Rattle.bdl_load.specs.declared.faults.Fault.{Fault}
use Rattle.bdl_load.specs.declared.faults.Finding.{Finding}
use Rattle.bdl_load.specs.declared.files.LoadedFile.{LoadedFile}
use Rattle.bdl_load.specs.declared.loader.Loader.{Loader}
use Rattle.bdl_load.specs.Faults.{Blames, fault_in}
use Rattle.bdl_load.specs.Loading.{Holding, Loading, all_loaded, stopped, is_among, file_names, loaded_as, IsFetched, Takes}
use Rattle.bdl_load.specs.Source.{SaysModule, IsSourceFault}
use Rattle.bdl_parser.specs.Decls.{AreSpelledDecls}

-- ---- one file

-- Where the library tells, it holds this under the name.
abbrev pub IsHeld : Files → List ℕ → Option (List ℕ) → Type 0
IsHeld files name content = IfSome files (λ held. held name ≡ content)

-- The file of this name that a library holds, with what it says.
pub record IsFileRead (files : Files) (name : List ℕ) (file : LoadedFile) : Type 0 where
  pub source : List ℕ
  pub module_ : Module
  pub told : IsHeld files name (Some source)
  pub says : SaysModule source module_
  pub is : file ≡ loaded_as name module_
  pub spelled : AreSpelledDecls module_.decls

-- The first fault of the file of this name that a library holds.
pub record IsBroken (files : Files) (name : List ℕ) (fault : Fault) : Type 0 where
  pub source : List ℕ
  pub finding : Finding
  pub told : IsHeld files name (Some source)
  pub first : IsSourceFault source finding
  pub is : fault ≡ fault_in name finding

-- The file of this name, or there is none.
abbrev pub IsFound : Files → List ℕ → Option LoadedFile → Type 0
IsFound files name None = IsHeld files name None
IsFound files name (Some file) = IsFileRead files name file

-- ---- what a library is left as

-- A call takes a library from the state `before` to the state `after`. The count of faults rose
-- where the library failed, and stayed where the call succeeded or blames a file; it never falls.
-- The library holds what it held.
pub record TreatsLibrary {S T : Type 0} (files : S → Files) (faults : S → ℕ) (before after : S)
    (result : Result T DefFault) : Type 0 where
  pub cause : IsErrOf result Failed → Rose (faults before) (faults after)
  pub steady : OnOk result (faults after ≡ faults before)
  pub blamed : IfErr result (Blames (λ _. faults after ≡ faults before))
  pub later : faults before ≤ faults after
  pub same : files after ≡ files before

-- ---- the files so far

-- The file without a name, which says nothing.
abbrev pub no_file : LoadedFile
no_file = loaded_as [] (record { imports = []; decls = [] })

-- The file of this number.
abbrev pub file_at : List LoadedFile → ℕ → LoadedFile
file_at files number = slice_index_or files number no_file

-- The names of the files of these numbers.
abbrev pub names_at : List LoadedFile → List ℕ → List (List ℕ)
names_at files numbers = map (λ number. (file_at files number).name) numbers

-- The declarations of the file are spelled as they should be.
abbrev pub IsSpelledFile : LoadedFile → Type 0
IsSpelledFile file = AreSpelledDecls file.«module».decls

-- At most `FILES_MAX` files of different names, with the numbers of those whose imports are being
-- taken.
pub record AreSound (files : List LoadedFile) (taking : List ℕ) : Type 0 where
  pub taken : All (λ number. number < length files) taking
  pub room : length files ≤ FILES_MAX
  pub distinct : IsDistinct bytes_eq (file_names files)
  pub spelled : All IsSpelledFile files

-- What is to be done with an import: its file is fetched, or it was loaded before.
abbrev pub IsChosen : List (List ℕ) → List LoadedFile → List ℕ → Bool → Type 0
IsChosen taking files name true = IsFetched taking files name
IsChosen taking files name false =
    (is_among name taking ≡ false) × (is_among name (file_names files) ≡ true)

-- What comes of these imports after the later files comes of those imports after the earlier ones.
abbrev pub Passes : Holding → List (List ℕ) → List ℕ → List LoadedFile → List Import
    → List LoadedFile → List Import → Type 0
Passes held taking from earlier those later these =
    (outcome : Loading) → Takes held taking later from these outcome
    → Takes held taking earlier from those outcome

-- ---- all answers

-- An answer of a library: the content of the file of this name, or that there is none.
pub record Answer : Type 0 where
  pub name : List ℕ
  pub content : Option (List ℕ)

-- The names that a library was asked for.
abbrev pub answer_names : List Answer → List (List ℕ)
answer_names answers = map (λ answer. answer.name) answers

-- Files that give these answers.
abbrev pub GivesAnswers : Holding → List Answer → Type 0
GivesAnswers held answers = AllByRecursion (λ answer. held answer.name ≡ answer.content) answers

-- The answers that a library gave: all of these, or all but the last, which nobody knows.
abbrev pub known : Bool → List Answer → List Answer
known true answers = answers
known false answers = take (length answers - 1) answers

-- A library was asked for the names of these answers, which are different and weren't loaded
-- before. It gave those that are known; and this comes of all files that give all of them, after
-- the names of what was loaded and asked for.
pub record Answered (whole : Bool) (files : Files) (before after : Asked) (loaded : List LoadedFile)
    (Comes : List (List ℕ) → Holding → Type 0) : Type 0 where
  pub answers : List Answer
  pub asks : Asks (answer_names answers) before after
  pub told : IfSome files (λ held. GivesAnswers held (known whole answers))
  pub distinct : IsDistinct bytes_eq (file_names loaded ++ answer_names answers)
  pub comes : (held : Holding) → GivesAnswers held answers
      → Comes (file_names loaded ++ answer_names answers) held

-- Some files were loaded after the earlier ones, and this comes of the answers of a library.
pub record Loaded (files : Files) (before after : Asked) (earlier later : List LoadedFile)
    (Comes : Holding → Type 0) : Type 0 where
  pub more : List LoadedFile
  pub grown : later ≡ earlier ++ more
  pub given : Answered true files before after earlier (λ _ held. Comes held)
  pub names : file_names more ≡ answer_names given.answers

-- Loading ended with this refusal: the fault comes of the answers of a library; or where the
-- library failed or memory ran out, some fault would come of them and of an answer to what was
-- asked for last.
abbrev pub Ends : Files → Asked → Asked → List LoadedFile → (Holding → Loading → Type 0) → DefFault
    → Type 0
Ends files before after loaded Comes (At file line column code) =
    Answered true files before after loaded
    (λ names held. Comes held
    (stopped names (record { file = file; line = line; column = column; code = code })))
Ends files before after loaded Comes Failed =
    Answered false files before after loaded
    (λ names held. (fault : Fault) × Comes held (stopped names fault))
Ends files before after loaded Comes Memory =
    Answered false files before after loaded
    (λ names held. (fault : Fault) × Comes held (stopped names fault))

-- The refusal blames a fault of which this holds, or there was one and no memory for it.
abbrev pub Halts : (Fault → Type 0) → DefFault → Type 0
Halts Holds (At file line column code) =
    Holds (record { file = file; line = line; column = column; code = code })
Halts Holds Failed = ⊥
Halts Holds Memory = (fault : Fault) × Holds fault

-- ---- the loader

-- The names of the files whose imports are being taken.
abbrev pub names_taking : Loader → List (List ℕ)
names_taking loader = names_at loader.files.items loader.taking.items

-- The loader's files and numbers are sound.
abbrev pub IsSoundLoader : Loader → Type 0
IsSoundLoader loader = AreSound loader.files.items loader.taking.items

-- The numbers of the files whose imports are being taken, with the next file's.
abbrev pub taking_next : Loader → List ℕ
taking_next loader = loader.taking.items ++ length loader.files.items ∷ []

-- The name of the file of this number.
abbrev pub name_from : Loader → ℕ → List ℕ
name_from loader from = (file_at loader.files.items from).name

-- The imports of the file of this number.
abbrev pub imports_from : Loader → ℕ → List Import
imports_from loader from = (file_at loader.files.items from).«module».imports

-- Before its file is asked for, the import has this fault in the file of this name.
abbrev pub StopsImport : Loader → List ℕ → Import → Fault → Type 0
StopsImport loader from import fault =
    (held : Holding) → (rest : List Import)
    → Takes held (names_taking loader) loader.files.items from (import ∷ rest)
    (stopped (file_names loader.files.items) fault)

-- Below, `files` and `asked` say what a library holds and was asked for; it went from the state
-- `before` to the state `after`.
module _ {S : Type 0} (files : S → Files) (asked : S → Asked) (before after : S) (loader : Loader)
    (from : ℕ) where
  -- All imports of the file of this number were taken.
  abbrev pub TakesAll : Loader → Type 0
  TakesAll later =
      Loaded (files before) (asked before) (asked after) loader.files.items later.files.items
      (λ held.
      Takes held (names_taking loader) loader.files.items (name_from loader from)
      (imports_from loader from)
      (all_loaded later.files.items))

  -- An import of the file of this number ended loading.
  abbrev pub StopsInAll : DefFault → Type 0
  StopsInAll refusal =
      Ends (files before) (asked before) (asked after) loader.files.items
      (λ held outcome. Takes held (names_taking loader) loader.files.items (name_from loader from)
      (imports_from loader from) outcome)
      refusal

  -- The import of this number was taken.
  abbrev pub TakesOne : ℕ → Loader → Type 0
  TakesOne number later =
      Loaded (files before) (asked before) (asked after) loader.files.items later.files.items
      (λ held.
      Passes held (names_taking loader) (name_from loader from) loader.files.items
      (drop number (imports_from loader from))
      later.files.items (drop (number + 1) (imports_from loader from)))

  -- The import of this number ended loading.
  abbrev pub StopsInOne : ℕ → DefFault → Type 0
  StopsInOne number refusal =
      Ends (files before) (asked before) (asked after) loader.files.items
      (λ held outcome.
      Takes held (names_taking loader) loader.files.items (name_from loader from)
      (drop number (imports_from loader from)) outcome)
      refusal
