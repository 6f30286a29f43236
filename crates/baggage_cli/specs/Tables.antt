-- What the files of a library come to as a table.
use Rattle.std.specs.Prelude.{◌≡◌, ◌⊎◌, ℕ, ◌<◌, ◌≤◌, List, [], ◌∷◌, length, Option, Some, None, Result, Ok, Err}
use Rattle.bag_model.specs.Shapes.{Nodes}
use Rattle.bag_model.specs.Tables.{IsTable}
use Rattle.bdl_lexer.specs.declared.TheConstants.{SOURCE_MAX}
use Rattle.bdl_load.specs.declared.faults.DefCode.TheVariants.{NoFile, DefTooLong}
use Rattle.bdl_load.specs.declared.faults.Fault.{Fault}
use Rattle.bdl_load.specs.Loading.{Holding, OfLibrary, AsksAll, AsksFirst}
use Rattle.bdl_check.specs.Compiler.{IsTableOf, IsFirstFaultOf}
use Rattle.table_text.specs.declared.faults.TableCode.{TableCode}
use Rattle.table_text.specs.Reading.{IsTableFault}
use Rattle.table_text.specs.TableTexts.{table_text}
use Rattle.baggage_cli.specs.declared.tables.Origin as code_origins
use Rattle.baggage_cli.specs.declared.tables.Origin.TheVariants.{Bag, Printed}
use Rattle.baggage_cli.specs.declared.refusals.Notice.TheVariants.{LibraryFailed, Memory}
use Rattle.baggage_cli.specs.declared.refusals.Refusal.{Refusal}
use Rattle.baggage_cli.specs.declared.refusals.Refusal.TheVariants.{Definition, Table, Plain}
use Rattle.baggage_cli.specs.Outcomes.{Use}
use Rattle.baggage_cli.specs.Refusals.{blamed}
use Rattle.baggage_cli.specs.Scene.{NeverFell, IsSteady, HasFailed}

-- Where a table comes from: it is that of the bag of this name, in the definition whose root is
-- this file, or the one whose text this file holds.
pub data Origin : Type 0 where
  compiled : List ℕ → List ℕ → Origin
  printed : List ℕ → Origin

-- The place that the code's name of it stands for.
abbrev pub origin_of : code_origins.Origin → Origin
origin_of (Bag file bag) = compiled file.now bag.now
origin_of (Printed file) = printed file.now

-- Why what a file of this name holds isn't taken: there is no such file, or it is too long.
abbrev pub IsUntaken : List ℕ → Option (List ℕ) → Refusal → Type 0
IsUntaken file None refusal = refusal ≡ Definition file 1 1 NoFile
IsUntaken file (Some text) refusal =
    (SOURCE_MAX < length text) × (refusal ≡ Definition file 1 1 DefTooLong)

-- What a file gives: all that it holds, or why that isn't taken.
abbrev pub FileGives : List ℕ → Option (List ℕ) → Result (List ℕ) Refusal → Type 0
FileGives file content (Ok text) = (content ≡ Some text) × (length text ≤ SOURCE_MAX)
FileGives file content (Err refusal) = IsUntaken file content refusal

-- What a file holds is the text of this table, and not too long.
abbrev pub IsPrinted : Option (List ℕ) → Nodes → Type 0
IsPrinted None table = ⊥
IsPrinted (Some text) table = (length text ≤ SOURCE_MAX) × IsTable table × (text ≡ table_text table)

-- Why the file of this name, which holds this, has no table: it isn't taken, or a line of it is the
-- first bad one.
abbrev pub IsUnprinted : List ℕ → Option (List ℕ) → Refusal → Type 0
IsUnprinted file None refusal = IsUntaken file None refusal
IsUnprinted file (Some text) refusal =
    IsUntaken file (Some text) refusal
    ⊎ ((length text ≤ SOURCE_MAX)
    × ((line : ℕ) × (code : TableCode) × IsTableFault text line code
    × (refusal ≡ Table file line code)))

-- What a file gives as a table.
abbrev pub PrintedGives : List ℕ → Option (List ℕ) → Result Nodes Refusal → Type 0
PrintedGives file content (Ok table) = IsPrinted content table
PrintedGives file content (Err refusal) = IsUnprinted file content refusal

-- What files give where a table comes from there: the table, or what is first wrong with its
-- definition or its text.
abbrev pub TableGives : Origin → Holding → Result Nodes Refusal → Type 0
TableGives (compiled file bag) held (Ok table) = IsTableOf held file bag table
TableGives (compiled file bag) held (Err refusal) =
    (fault : Fault) × IsFirstFaultOf held file bag fault × (refusal ≡ blamed fault)
TableGives (printed file) held (Ok table) = IsPrinted (held file) table
TableGives (printed file) held (Err refusal) = IsUnprinted file (held file) refusal

-- All names that are asked for a table, in order.
abbrev pub AsksForTable : Holding → Origin → List (List ℕ) → Type 0
AsksForTable held (compiled file bag) names = AsksAll held file names
AsksForTable held (printed file) names = names ≡ file ∷ []

-- The first of them.
abbrev pub AsksFront : Holding → Origin → List (List ℕ) → Type 0
AsksFront held (compiled file bag) names = AsksFirst held file names
AsksFront held (printed file) names = names ≡ file ∷ []

-- Something is taken from the files of a library, which stay. Memory may run out, and a library
-- that failed has its cause; then the library was asked for the first names that are needed.
-- Otherwise it is what is given for the files of the library, which counted no fault, and was asked
-- for all names that are needed and for no others. A library that doesn't tell held some files, and
-- was asked for some names, for which it is so.
abbrev pub TakesFrom : {A : Type 0} → (Holding → List (List ℕ) → Type 0)
    → (Holding → List (List ℕ) → Type 0) → (Holding → Result A Refusal → Type 0) → Use A
TakesFrom Front All gives library requests outcome =
    (library.after ≡ library.before)
    × NeverFell library
    × (((outcome ≡ Err (Plain Memory))
    × OfLibrary library.before requests.before requests.after Front)
    ⊎ ((outcome ≡ Err (Plain LibraryFailed)) × HasFailed library
    × OfLibrary library.before requests.before requests.after Front)
    ⊎ (IsSteady library × OfLibrary library.before requests.before requests.after
    (λ held names. gives held outcome × All held names)))

-- A table is taken from where it comes.
abbrev pub Obtains : Origin → Use Nodes
Obtains origin =
    TakesFrom (λ held names. AsksFront held origin names)
    (λ held names. AsksForTable held origin names)
    (λ held outcome. TableGives origin held outcome)

-- All that a file holds is taken. The library is asked for it alone.
abbrev pub Brings : List ℕ → Use (List ℕ)
Brings file =
    TakesFrom (λ held names. names ≡ file ∷ []) (λ held names. names ≡ file ∷ [])
    (λ held outcome. FileGives file (held file) outcome)
