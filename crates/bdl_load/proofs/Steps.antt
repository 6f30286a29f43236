-- What one import of a file comes to, and what the root comes to.
use Rattle.std.proofs.Common.{◌≡◌, ℕ, ◌+◌, ◌<◌, ◌≤◌, false, None, Some, List, [], ◌∷◌, ◌++◌, length, drop, get_or, refl, sym, ◌∙◌, ap, subst, arith}
use Rattle.std.specs.List.{IsDistinct}
use Rattle.std.specs.Str.{bytes_eq}
use Rattle.bdl_load.specs.declared.faults.TheConstants.{FIRST_SPOT}
use Rattle.outside.specs.Transfers.{Files, Asked, Asks}
use Rattle.bdl_parser.specs.declared.trees.Import.{Import}
use Rattle.bdl_load.specs.declared.faults.DefCode.TheVariants.{NoFile, ImportMissing}
use Rattle.bdl_load.specs.declared.faults.DefFault.{DefFault}
use Rattle.bdl_load.specs.declared.faults.DefFault.TheVariants.{At, Failed, Memory}
use Rattle.bdl_load.specs.declared.faults.Fault.{Fault}
use Rattle.bdl_load.specs.declared.files.LoadedFile.{LoadedFile}
use Rattle.bdl_load.specs.Loader.{IsHeld, IsFileRead, IsBroken, IsSpelledFile, file_at, names_at, IsChosen, Passes, Loaded, Ends, Halts}
use Rattle.bdl_load.specs.Faults.{Blames, found, fault_in}
use Rattle.bdl_load.specs.Loading.{Holding, all_loaded, stopped, IsFetched, is_among, file_names, Takes, Enters, Loads}
use Rattle.bdl_load.proofs.Asking.{IsNew, distinct_none, ends_halted, answered_fault, answered_unknown, loaded_then, ends_then}
use Rattle.bdl_load.proofs.FilesSoFar.{file_is}
use Rattle.bdl_load.proofs.Taking.{first_left, Steps, FromImport, InFile, known_import, fetched_import, ended_import, unknown_import, broken_import, missing_import, begun_file, enters_read}

-- ---- an import of the file of a number

abbrev pub imports_at : List LoadedFile → ℕ → List Import
imports_at loaded from = (file_at loaded from).«module».imports

-- the import of this number is the first of those that are left
abbrev pub IsNext : List LoadedFile → ℕ → ℕ → Import → Type 0
IsNext loaded from number import = drop number (imports_at loaded from) ≡ import ∷ drop (number + 1) (imports_at loaded from)

pub next_is : (loaded : List LoadedFile) (from number : ℕ) (file : LoadedFile) (imports : List Import) (import : Import) → from < length loaded → number < length (imports_at loaded from)
    → file ≡ get_or loaded from file → imports ≡ file.«module».imports → import ≡ get_or imports number import → IsNext loaded from number import
next_is loaded from number file imports import within counted is lists at =
    let same = lists ∙ ap (λ (file : LoadedFile). file.«module».imports) (sym (file_is loaded from file within is)) in
    first_left (imports_at loaded from) number import counted (at ∙ ap (λ list. get_or list number import) same)

pub name_is : (loaded : List LoadedFile) (from : ℕ) (file : LoadedFile) (text : List ℕ) → from < length loaded → file ≡ get_or loaded from file → text ≡ file.name → text ≡ (file_at loaded from).name
name_is loaded from file text within is same = same ∙ ap (λ (file : LoadedFile). file.name) (sym (file_is loaded from file within is))

pub count_is : (loaded : List LoadedFile) (from count number : ℕ) (file : LoadedFile) → from < length loaded → file ≡ get_or loaded from file → count ≡ length file.«module».imports → count ≤ number → length (imports_at loaded from) ≤ number
count_is loaded from count number file within is counts all =
    let same = ap (λ (file : LoadedFile). length file.«module».imports) (file_is loaded from file within is) in
    omega (arith, same, counts, all)

pub known_step : (files : Files) (before : Asked) (loaded : List LoadedFile) (taking : List ℕ) (from number : ℕ) (import : Import) → IsNext loaded from number import → IsDistinct bytes_eq (file_names loaded)
    → IsChosen (names_at loaded taking) loaded import.file false → Loaded files before before loaded loaded (Steps loaded taking from number loaded)
known_step files before loaded taking from number import next d chosen =
    subst (λ those. Loaded files before before loaded loaded (λ held. Passes held (names_at loaded taking) (file_at loaded from).name loaded those loaded (drop (number + 1) (imports_at loaded from)))) (sym next)
    (known_import files before (names_at loaded taking) (file_at loaded from).name loaded import (drop (number + 1) (imports_at loaded from)) d chosen)

pub fetched_step : (files now : Files) (before between after : Asked) (loaded later : List LoadedFile) (taking : List ℕ) (from number : ℕ) (import : Import) (name : List ℕ) (file : LoadedFile) → IsNext loaded from number import
    → IsNew loaded import.file before between → IsFetched (names_at loaded taking) loaded import.file → name ≡ import.file → now ≡ files → IsFileRead files name file
    → Loaded now between after (loaded ++ file ∷ []) later (λ held. InFile (names_at loaded taking) loaded file held (all_loaded later)) → Loaded files before after loaded later (Steps loaded taking from number later)
fetched_step files now before between after loaded later taking from number import name file next new fetched named told read l =
    subst (λ those. Loaded files before after loaded later (λ held. Passes held (names_at loaded taking) (file_at loaded from).name loaded those later (drop (number + 1) (imports_at loaded from)))) (sym next)
    (fetched_import files before between after (names_at loaded taking) (file_at loaded from).name loaded later import (drop (number + 1) (imports_at loaded from)) file new fetched
    (subst (λ name. IsFileRead files name file) named read)
    (subst (λ files. Loaded files between after (loaded ++ file ∷ []) later (λ held. InFile (names_at loaded taking) loaded file held (all_loaded later))) told l))

-- what ends at the import of that number
abbrev EndsHere : Files → Asked → Asked → List LoadedFile → List ℕ → ℕ → Import → List Import → DefFault → Type 0
EndsHere files before after loaded taking from import rest refusal =
    Ends files before after loaded (λ held outcome. Takes held (names_at loaded taking) loaded (file_at loaded from).name (import ∷ rest) outcome) refusal

ends_here : (files : Files) (before after : Asked) (loaded : List LoadedFile) (taking : List ℕ) (from number : ℕ) (import : Import) (refusal : DefFault) → IsNext loaded from number import
    → EndsHere files before after loaded taking from import (drop (number + 1) (imports_at loaded from)) refusal → Ends files before after loaded (FromImport loaded taking from number) refusal
ends_here files before after loaded taking from number import refusal next =
    subst (λ those. Ends files before after loaded (λ held outcome. Takes held (names_at loaded taking) loaded (file_at loaded from).name those outcome) refusal) (sym next)

pub ended_step : (files now : Files) (before between after : Asked) (loaded : List LoadedFile) (taking : List ℕ) (from number : ℕ) (import : Import) (name : List ℕ) (file : LoadedFile) (refusal : DefFault) → IsNext loaded from number import
    → IsNew loaded import.file before between → IsFetched (names_at loaded taking) loaded import.file → name ≡ import.file → now ≡ files → IsFileRead files name file
    → Ends now between after (loaded ++ file ∷ []) (InFile (names_at loaded taking) loaded file) refusal → Ends files before after loaded (FromImport loaded taking from number) refusal
ended_step files now before between after loaded taking from number import name file refusal next new fetched named told read e =
    ends_here files before after loaded taking from number import refusal next
    (ended_import files before between after (names_at loaded taking) (file_at loaded from).name loaded import (drop (number + 1) (imports_at loaded from)) file refusal new fetched
    (subst (λ name. IsFileRead files name file) named read)
    (subst (λ files. Ends files between after (loaded ++ file ∷ []) (InFile (names_at loaded taking) loaded file) refusal) told e))

halts_so : (H K : Fault → Type 0) → ((fault : Fault) → H fault → K fault) → (refusal : DefFault) → Halts H refusal → Halts K refusal
halts_so H K so (At file line column code) h = so (record { file = file; line = line; column = column; code = code }) h
halts_so H K so Failed h = absurd h
halts_so H K so Memory (fault, h) = (fault, so fault h)

pub halted_step : (files : Files) (before : Asked) (loaded : List LoadedFile) (taking : List ℕ) (from number : ℕ) (import : Import) (text : List ℕ) (refusal : DefFault) → IsNext loaded from number import → IsDistinct bytes_eq (file_names loaded)
    → text ≡ (file_at loaded from).name → Halts (λ fault. (held : Holding) → (rest : List Import) → Takes held (names_at loaded taking) loaded text (import ∷ rest) (stopped (file_names loaded) fault)) refusal
    → Ends files before before loaded (FromImport loaded taking from number) refusal
halted_step files before loaded taking from number import text refusal next d same h =
    let rest = drop (number + 1) (imports_at loaded from) in
    ends_here files before before loaded taking from number import refusal next
    (ends_halted files before loaded (λ held outcome. Takes held (names_at loaded taking) loaded (file_at loaded from).name (import ∷ rest) outcome) d refusal
    (halts_so (λ fault. (held : Holding) → (rest : List Import) → Takes held (names_at loaded taking) loaded text (import ∷ rest) (stopped (file_names loaded) fault))
    (λ fault. (held : Holding) → Takes held (names_at loaded taking) loaded (file_at loaded from).name (import ∷ rest) (stopped (file_names loaded) fault))
    (λ fault t held. subst (λ text. Takes held (names_at loaded taking) loaded text (import ∷ rest) (stopped (file_names loaded) fault)) same (t held rest)) refusal h))

pub broken_step : (files : Files) (before after : Asked) (loaded : List LoadedFile) (taking : List ℕ) (from number : ℕ) (import : Import) (name : List ℕ) (refusal : DefFault) → IsNext loaded from number import
    → IsNew loaded import.file before after → IsFetched (names_at loaded taking) loaded import.file → name ≡ import.file → Blames (IsBroken files name) refusal → Ends files before after loaded (FromImport loaded taking from number) refusal
broken_step files before after loaded taking from number import name refusal next new fetched named b =
    ends_here files before after loaded taking from number import refusal next
    (broken_import files before after (names_at loaded taking) (file_at loaded from).name loaded import (drop (number + 1) (imports_at loaded from)) refusal new fetched
    (subst (λ name. Blames (IsBroken files name) refusal) named b))

pub missing_step : (files : Files) (before after : Asked) (loaded : List LoadedFile) (taking : List ℕ) (from number : ℕ) (import : Import) (name text : List ℕ) (refusal : DefFault) → IsNext loaded from number import
    → IsNew loaded import.file before after → IsFetched (names_at loaded taking) loaded import.file → name ≡ import.file → IsHeld files name None → text ≡ (file_at loaded from).name
    → Blames (λ fault. fault ≡ fault_in text (found import.at ImportMissing)) refusal → Ends files before after loaded (FromImport loaded taking from number) refusal
missing_step files before after loaded taking from number import name text refusal next new fetched named told same b =
    ends_here files before after loaded taking from number import refusal next
    (missing_import files before after (names_at loaded taking) (file_at loaded from).name loaded import (drop (number + 1) (imports_at loaded from)) refusal new fetched
    (subst (λ name. IsHeld files name None) named told) (subst (λ text. Blames (λ fault. fault ≡ fault_in text (found import.at ImportMissing)) refusal) same b))

-- memory ran out for a file that was fetched
pub memory_step : (files : Files) (before after : Asked) (loaded : List LoadedFile) (taking : List ℕ) (from number : ℕ) (import : Import) → IsNext loaded from number import
    → IsNew loaded import.file before after → IsFetched (names_at loaded taking) loaded import.file → Ends files before after loaded (FromImport loaded taking from number) Memory
memory_step files before after loaded taking from number import next new fetched =
    ends_here files before after loaded taking from number import Memory next
    (unknown_import files before after (names_at loaded taking) (file_at loaded from).name loaded import (drop (number + 1) (imports_at loaded from)) new fetched)

pub new_import : (loaded : List LoadedFile) (taking : List ℕ) (name file : List ℕ) (before after : Asked) → IsDistinct bytes_eq (file_names loaded) → IsFetched (names_at loaded taking) loaded file → name ≡ file
    → Asks (name ∷ []) before after → IsNew loaded file before after
new_import loaded taking name file before after d fetched named asks = record { distinct = d; fresh = fetched.fresh; asks = subst (λ name. Asks (name ∷ []) before after) named asks }

-- a file that is read has the name of its import, and is spelled as it should be
pub read_fresh : (files : Files) (loaded : List LoadedFile) (name other : List ℕ) (file : LoadedFile) → IsFileRead files name file → name ≡ other → is_among other (file_names loaded) ≡ false → is_among file.name (file_names loaded) ≡ false
read_fresh files loaded name other file read same fresh =
    ap (λ (file : LoadedFile). is_among file.name (file_names loaded)) read.is ∙ ap (λ name. is_among name (file_names loaded)) same ∙ fresh

pub read_spelled : (files : Files) (name : List ℕ) (file : LoadedFile) → IsFileRead files name file → IsSpelledFile file
read_spelled files name file read = subst IsSpelledFile (sym read.is) read.spelled

-- ---- the root

abbrev pub RootEnds : Files → Asked → Asked → List ℕ → DefFault → Type 0
RootEnds files before after root refusal = Ends files before after [] (λ held outcome. Loads held root outcome) refusal

new_root : (root : List ℕ) (before after : Asked) → Asks (root ∷ []) before after → IsNew [] root before after
new_root root before after asks = record { distinct = distinct_none; fresh = refl; asks = asks }

abbrev no_root : List ℕ → Fault
no_root root = fault_in root (found FIRST_SPOT NoFile)

pub root_memory : (files : Files) (before after : Asked) (root : List ℕ) → Asks (root ∷ []) before after → RootEnds files before after root Memory
root_memory files before after root asks =
    answered_unknown files before after [] root (λ held outcome. Loads held root outcome) (no_root root) (new_root root before after asks) (λ held none. Loads.no_root none refl)

pub root_missing : (files : Files) (before after : Asked) (root : List ℕ) (refusal : DefFault) → Asks (root ∷ []) before after → IsHeld files root None
    → Blames (λ fault. fault ≡ fault_in root (found FIRST_SPOT NoFile)) refusal → RootEnds files before after root refusal
root_missing files before after root (At file line column code) asks told is =
    let fault : Fault = record { file = file; line = line; column = column; code = code } in
    answered_fault files before after [] root None (λ held outcome. Loads held root outcome) fault (new_root root before after asks) told (λ held none. Loads.no_root none (ap (stopped (root ∷ [])) is))
root_missing files before after root Failed asks told is = root_memory files before after root asks
root_missing files before after root Memory asks told is = root_memory files before after root asks

pub root_broken : (files : Files) (before after : Asked) (root : List ℕ) (refusal : DefFault) → Asks (root ∷ []) before after → Blames (IsBroken files root) refusal → RootEnds files before after root refusal
root_broken files before after root (At file line column code) asks b =
    let fault : Fault = record { file = file; line = line; column = column; code = code } in
    answered_fault files before after [] root (Some b.source) (λ held outcome. Loads held root outcome) fault (new_root root before after asks) b.told
    (λ held some. Loads.from_root b.source some (subst (λ fault. Enters held [] [] root b.source (stopped (root ∷ []) fault)) (sym b.is) (Enters.broken [] [] root b.source b.finding b.first)))
root_broken files before after root Failed asks b = root_memory files before after root asks
root_broken files before after root Memory asks b = root_memory files before after root asks

pub root_ended : (files now : Files) (before between after : Asked) (root : List ℕ) (file : LoadedFile) (refusal : DefFault) → Asks (root ∷ []) before between → now ≡ files → IsFileRead files root file
    → Ends now between after (file ∷ []) (InFile [] [] file) refusal → RootEnds files before after root refusal
root_ended files now before between after root file refusal asks told read e =
    ends_then files before between after [] (file ∷ []) (λ held. held root ≡ Some read.source) (InFile [] [] file) (λ held outcome. Loads held root outcome)
    (begun_file files before between [] root file read (new_root root before between asks))
    (λ held some names fault t. Loads.from_root read.source some (enters_read held [] [] files root file read (stopped names fault) t))
    refusal (subst (λ files. Ends files between after (file ∷ []) (InFile [] [] file) refusal) told e)

pub root_loaded : (files now : Files) (before between after : Asked) (root : List ℕ) (file : LoadedFile) (later : List LoadedFile) → Asks (root ∷ []) before between → now ≡ files → IsFileRead files root file
    → Loaded now between after (file ∷ []) later (λ held. InFile [] [] file held (all_loaded later)) → Loaded files before after [] later (λ held. Loads held root (all_loaded later))
root_loaded files now before between after root file later asks told read l =
    loaded_then files before between after [] (file ∷ []) later (λ held. held root ≡ Some read.source) (λ held. InFile [] [] file held (all_loaded later)) (λ held. Loads held root (all_loaded later))
    (begun_file files before between [] root file read (new_root root before between asks))
    (subst (λ files. Loaded files between after (file ∷ []) later (λ held. InFile [] [] file held (all_loaded later))) told l)
    (λ held some t. Loads.from_root read.source some (enters_read held [] [] files root file read (all_loaded later) t))
