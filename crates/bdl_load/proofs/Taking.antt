-- What comes of the imports of a file, from what comes of each.
use Rattle.std.proofs.Common.{◌≡◌, ℕ, suc, ◌+◌, ◌<◌, ◌≤◌, false, None, Some, List, [], ◌∷◌, ◌++◌, length, drop, get_or, refl, sym, ◌∙◌, ap, subst, add-one, drop-cons}
use Rattle.std.specs.List.{All, IsDistinct}
use Rattle.std.specs.Str.{bytes_eq}
use Rattle.std.proofs.lemmas.List.{drop_all}
use Rattle.outside.specs.Transfers.{Files, Asked}
use Rattle.bdl_parser.specs.declared.trees.Import.{Import}
use Rattle.bdl_load.specs.declared.faults.DefCode.TheVariants.{ImportMissing}
use Rattle.bdl_load.specs.declared.faults.DefFault.{DefFault}
use Rattle.bdl_load.specs.declared.faults.DefFault.TheVariants.{At, Failed, Memory}
use Rattle.bdl_load.specs.declared.faults.Fault.{Fault}
use Rattle.bdl_load.specs.declared.files.LoadedFile.{LoadedFile}
use Rattle.bdl_load.specs.Loader.{IsHeld, IsFileRead, IsBroken, file_at, names_at, AreSound, IsChosen, Passes, Answered, Loaded, Ends, Halts}
use Rattle.bdl_load.specs.Faults.{Blames, found, fault_in}
use Rattle.bdl_load.specs.Loading.{Holding, Loading, all_loaded, stopped, IsFetched, file_names, loaded_as, Takes, Enters}
use Rattle.bdl_load.proofs.Asking.{IsNew, loaded_then, ends_then, loaded_nothing, loaded_file, answered_fault, answered_unknown, loaded_so, ends_so}
use Rattle.bdl_load.proofs.FilesSoFar.{file_kept, file_added, names_kept, names_added}

-- a refusal that blames one fault blames what is so of it
pub blames_so : (H K : Fault → Type 0) (r : DefFault) → ((fault : Fault) → H fault → K fault) → Blames H r → Blames K r
blames_so H K (At file line column code) so b = so (record { file = file; line = line; column = column; code = code }) b
blames_so H K Failed so b = tt
blames_so H K Memory so b = tt

-- a refusal for a fault, where it is so of that fault
pub halts_of : (H : Fault → Type 0) (fault : Fault) → H fault → (r : DefFault) → Blames (λ other. other ≡ fault) r → (r ≡ Failed → ⊥) → Halts H r
halts_of H fault h (At file line column code) is inside = subst H (sym is) h
halts_of H fault h Failed is inside = inside refl
halts_of H fault h Memory is inside = (fault, h)

-- ---- one import

pub first_left : (imports : List Import) (number : ℕ) (import : Import) → number < length imports → import ≡ get_or imports number import → drop number imports ≡ import ∷ drop (number + 1) imports
first_left imports number import within is =
    drop-cons imports number import within ∙ ap (λ first. first ∷ drop (suc number) imports) (sym is) ∙ ap (λ n. import ∷ drop n imports) (sym (add-one number))

pub known_import : (files : Files) (before : Asked) (taking : List (List ℕ)) (from : List ℕ) (loaded : List LoadedFile) (import : Import) (rest : List Import) → IsDistinct bytes_eq (file_names loaded)
    → IsChosen taking loaded import.file false → Loaded files before before loaded loaded (λ held. Passes held taking from loaded (import ∷ rest) loaded rest)
known_import files before taking from loaded import rest d chosen =
    loaded_nothing files before loaded (λ held. Passes held taking from loaded (import ∷ rest) loaded rest) d (λ held outcome t. Takes.known taking loaded from import rest outcome chosen.0 chosen.1 t)

-- the file of an import, under the name that it was fetched by
pub enters_read : (held : Holding) (taking : List (List ℕ)) (loaded : List LoadedFile) (files : Files) (name : List ℕ) (file : LoadedFile) (r : IsFileRead files name file) (outcome : Loading)
    → Takes held (taking ++ file.name ∷ []) (loaded ++ file ∷ []) file.name file.«module».imports outcome → Enters held taking loaded name r.source outcome
enters_read held taking loaded files name file r outcome t =
    Enters.read taking loaded name r.source r.module_ outcome r.says
    (subst (λ (file : LoadedFile). Takes held (taking ++ file.name ∷ []) (loaded ++ file ∷ []) file.name file.«module».imports outcome) r.is t)

-- it is held under that name
pub begun_file : (files : Files) (before after : Asked) (loaded : List LoadedFile) (name : List ℕ) (file : LoadedFile) (r : IsFileRead files name file) → IsNew loaded name before after
    → Loaded files before after loaded (loaded ++ file ∷ []) (λ held. held name ≡ Some r.source)
begun_file files before after loaded name file r new =
    subst (λ (other : LoadedFile). Loaded files before after loaded (loaded ++ other ∷ []) (λ held. held name ≡ Some r.source)) (sym r.is)
    (loaded_file files before after loaded (loaded_as name r.module_) r.source new r.told)

-- what comes of the imports of a file that was just added
abbrev pub InFile : List (List ℕ) → List LoadedFile → LoadedFile → Holding → Loading → Type 0
InFile taking loaded file held outcome = Takes held (taking ++ file.name ∷ []) (loaded ++ file ∷ []) file.name file.«module».imports outcome

pub fetched_import : (files : Files) (before between after : Asked) (taking : List (List ℕ)) (from : List ℕ) (loaded later : List LoadedFile) (import : Import) (rest : List Import) (file : LoadedFile)
    → IsNew loaded import.file before between → IsFetched taking loaded import.file → IsFileRead files import.file file
    → Loaded files between after (loaded ++ file ∷ []) later (λ held. InFile taking loaded file held (all_loaded later))
    → Loaded files before after loaded later (λ held. Passes held taking from loaded (import ∷ rest) later rest)
fetched_import files before between after taking from loaded later import rest file new fetched r l =
    loaded_then files before between after loaded (loaded ++ file ∷ []) later
    (λ held. held import.file ≡ Some r.source)
    (λ held. InFile taking loaded file held (all_loaded later))
    (λ held. Passes held taking from loaded (import ∷ rest) later rest)
    (begun_file files before between loaded import.file file r new) l
    (λ held is t outcome u. Takes.fetched taking loaded later from r.source import rest outcome fetched is (enters_read held taking loaded files import.file file r (all_loaded later) t) u)

pub ended_import : (files : Files) (before between after : Asked) (taking : List (List ℕ)) (from : List ℕ) (loaded : List LoadedFile) (import : Import) (rest : List Import) (file : LoadedFile) (refusal : DefFault)
    → IsNew loaded import.file before between → IsFetched taking loaded import.file → IsFileRead files import.file file
    → Ends files between after (loaded ++ file ∷ []) (InFile taking loaded file) refusal → Ends files before after loaded (λ held outcome. Takes held taking loaded from (import ∷ rest) outcome) refusal
ended_import files before between after taking from loaded import rest file refusal new fetched r =
    ends_then files before between after loaded (loaded ++ file ∷ []) (λ held. held import.file ≡ Some r.source) (InFile taking loaded file)
    (λ held outcome. Takes held taking loaded from (import ∷ rest) outcome)
    (begun_file files before between loaded import.file file r new)
    (λ held is names fault t. Takes.within taking loaded from r.source import rest names fault fetched is (enters_read held taking loaded files import.file file r (stopped names fault) t)) refusal

-- whatever the library holds under the name of an import, a fault would come if it held nothing
pub unknown_import : (files : Files) (before after : Asked) (taking : List (List ℕ)) (from : List ℕ) (loaded : List LoadedFile) (import : Import) (rest : List Import) → IsNew loaded import.file before after
    → IsFetched taking loaded import.file → Answered false files before after loaded (λ names held. (fault : Fault) × Takes held taking loaded from (import ∷ rest) (stopped names fault))
unknown_import files before after taking from loaded import rest new fetched =
    answered_unknown files before after loaded import.file (λ held outcome. Takes held taking loaded from (import ∷ rest) outcome) (fault_in from (found import.at ImportMissing)) new
    (λ held none. Takes.missing taking loaded from import rest fetched none)

pub broken_import : (files : Files) (before after : Asked) (taking : List (List ℕ)) (from : List ℕ) (loaded : List LoadedFile) (import : Import) (rest : List Import) (refusal : DefFault) → IsNew loaded import.file before after
    → IsFetched taking loaded import.file → Blames (IsBroken files import.file) refusal → Ends files before after loaded (λ held outcome. Takes held taking loaded from (import ∷ rest) outcome) refusal
broken_import files before after taking from loaded import rest (At file line column code) new fetched b =
    let fault : Fault = record { file = file; line = line; column = column; code = code } in
    answered_fault files before after loaded import.file (Some b.source) (λ held outcome. Takes held taking loaded from (import ∷ rest) outcome) fault new b.told
    (λ held is. Takes.within taking loaded from b.source import rest (file_names loaded ++ import.file ∷ []) fault fetched is
    (subst (λ fault. Enters held taking loaded import.file b.source (stopped (file_names loaded ++ import.file ∷ []) fault)) (sym b.is) (Enters.broken taking loaded import.file b.source b.finding b.first)))
broken_import files before after taking from loaded import rest Failed new fetched b = unknown_import files before after taking from loaded import rest new fetched
broken_import files before after taking from loaded import rest Memory new fetched b = unknown_import files before after taking from loaded import rest new fetched

pub missing_import : (files : Files) (before after : Asked) (taking : List (List ℕ)) (from : List ℕ) (loaded : List LoadedFile) (import : Import) (rest : List Import) (refusal : DefFault) → IsNew loaded import.file before after
    → IsFetched taking loaded import.file → IsHeld files import.file None → Blames (λ fault. fault ≡ fault_in from (found import.at ImportMissing)) refusal
    → Ends files before after loaded (λ held outcome. Takes held taking loaded from (import ∷ rest) outcome) refusal
missing_import files before after taking from loaded import rest (At file line column code) new fetched told is =
    let fault : Fault = record { file = file; line = line; column = column; code = code } in
    answered_fault files before after loaded import.file None (λ held outcome. Takes held taking loaded from (import ∷ rest) outcome) fault new told
    (λ held none. subst (λ fault. Takes held taking loaded from (import ∷ rest) (stopped (file_names loaded ++ import.file ∷ []) fault)) (sym is) (Takes.missing taking loaded from import rest fetched none))
missing_import files before after taking from loaded import rest Failed new fetched told is = unknown_import files before after taking from loaded import rest new fetched
missing_import files before after taking from loaded import rest Memory new fetched told is = unknown_import files before after taking from loaded import rest new fetched

-- ---- the imports of a file

-- the first `number` imports of the file with the number `from` were taken
abbrev pub Taken : List LoadedFile → List ℕ → ℕ → List LoadedFile → ℕ → Holding → Type 0
Taken loaded taking from later number held =
    Passes held (names_at loaded taking) (file_at loaded from).name loaded (file_at loaded from).«module».imports later (drop number (file_at loaded from).«module».imports)

-- what comes of the imports from this number on
abbrev pub FromImport : List LoadedFile → List ℕ → ℕ → ℕ → Holding → Loading → Type 0
FromImport loaded taking from number held outcome =
    Takes held (names_at loaded taking) loaded (file_at loaded from).name (drop number (file_at loaded from).«module».imports) outcome

-- what comes of all imports
abbrev pub FromFile : List LoadedFile → List ℕ → ℕ → Holding → Loading → Type 0
FromFile loaded taking from held outcome = Takes held (names_at loaded taking) loaded (file_at loaded from).name (file_at loaded from).«module».imports outcome

-- the import of this number was taken
abbrev pub Steps : List LoadedFile → List ℕ → ℕ → ℕ → List LoadedFile → Holding → Type 0
Steps loaded taking from number later held =
    Passes held (names_at loaded taking) (file_at loaded from).name loaded (drop number (file_at loaded from).«module».imports) later (drop (number + 1) (file_at loaded from).«module».imports)

pub none_taken : (files : Files) (before : Asked) (loaded : List LoadedFile) (taking : List ℕ) (from : ℕ) → IsDistinct bytes_eq (file_names loaded) → Loaded files before before loaded loaded (Taken loaded taking from loaded 0)
none_taken files before loaded taking from d = loaded_nothing files before loaded (Taken loaded taking from loaded 0) d (λ held outcome t. t)

-- names and the file are the same after more files
same_names : (loaded later more : List LoadedFile) (taking now : List ℕ) → All (λ number. number < length loaded) taking → later ≡ loaded ++ more → now ≡ taking → names_at later now ≡ names_at loaded taking
same_names loaded later more taking now all grown same = ap (names_at later) same ∙ ap (λ files. names_at files taking) grown ∙ names_kept loaded more taking all

same_file : (loaded later more : List LoadedFile) (from : ℕ) → from < length loaded → later ≡ loaded ++ more → file_at later from ≡ file_at loaded from
same_file loaded later more from within grown = ap (λ files. file_at files from) grown ∙ file_kept loaded more from within

pub one_taken : (files now : Files) (before between after : Asked) (loaded middle later : List LoadedFile) (taking same : List ℕ) (from number : ℕ) → now ≡ files → AreSound loaded taking → from < length loaded → same ≡ taking
    → Loaded files before between loaded middle (Taken loaded taking from middle number) → Loaded now between after middle later (Steps middle same from number later) → Loaded files before after loaded later (Taken loaded taking from later (number + 1))
one_taken files now before between after loaded middle later taking same from number told sound within kept l next =
    let names = same_names loaded middle l.more taking same sound.taken l.grown kept in
    let file = same_file loaded middle l.more from within l.grown in
    loaded_then files before between after loaded middle later (Taken loaded taking from middle number) (Steps middle same from number later) (Taken loaded taking from later (number + 1))
    l (subst (λ files. Loaded files between after middle later (Steps middle same from number later)) told next)
    (λ held t s outcome u. t outcome (subst (λ names. Takes held names middle (file_at loaded from).name (drop number (file_at loaded from).«module».imports) outcome) names
    (subst (λ (file : LoadedFile). Takes held (names_at middle same) middle file.name (drop number file.«module».imports) outcome) file
    (s outcome (subst (λ names. Takes held names later (file_at middle from).name (drop (number + 1) (file_at middle from).«module».imports) outcome) (sym names)
    (subst (λ (file : LoadedFile). Takes held (names_at loaded taking) later file.name (drop (number + 1) file.«module».imports) outcome) (sym file) u))))))

pub one_ended : (files now : Files) (before between after : Asked) (loaded middle : List LoadedFile) (taking same : List ℕ) (from number : ℕ) (refusal : DefFault) → now ≡ files → AreSound loaded taking → from < length loaded → same ≡ taking
    → Loaded files before between loaded middle (Taken loaded taking from middle number) → Ends now between after middle (FromImport middle same from number) refusal → Ends files before after loaded (FromFile loaded taking from) refusal
one_ended files now before between after loaded middle taking same from number refusal told sound within kept l end =
    let names = same_names loaded middle l.more taking same sound.taken l.grown kept in
    let file = same_file loaded middle l.more from within l.grown in
    ends_then files before between after loaded middle (Taken loaded taking from middle number) (FromImport middle same from number) (FromFile loaded taking from) l
    (λ held t stops fault s. t (stopped stops fault) (subst (λ names. Takes held names middle (file_at loaded from).name (drop number (file_at loaded from).«module».imports) (stopped stops fault)) names
    (subst (λ (file : LoadedFile). Takes held (names_at middle same) middle file.name (drop number file.«module».imports) (stopped stops fault)) file s)))
    refusal (subst (λ files. Ends files between after middle (FromImport middle same from number) refusal) told end)

pub all_taken : (files : Files) (before after : Asked) (loaded later : List LoadedFile) (taking : List ℕ) (from number : ℕ) → length (file_at loaded from).«module».imports ≤ number
    → Loaded files before after loaded later (Taken loaded taking from later number) → Loaded files before after loaded later (λ held. FromFile loaded taking from held (all_loaded later))
all_taken files before after loaded later taking from number all l =
    loaded_so files before after loaded later (Taken loaded taking from later number) (λ held. FromFile loaded taking from held (all_loaded later))
    (λ held t. t (all_loaded later) (subst (λ left. Takes held (names_at loaded taking) later (file_at loaded from).name left (all_loaded later)) (sym (drop_all number (file_at loaded from).«module».imports all))
    (Takes.none_left (names_at loaded taking) later (file_at loaded from).name))) l

-- ---- a file that was just added

-- what comes of the imports of the last file comes of those of the file that was added
added : (held : Holding) (loaded begun : List LoadedFile) (file : LoadedFile) (taking now : List ℕ) (from : ℕ) (outcome : Loading) → from ≡ length loaded → All (λ number. number < length loaded) taking
    → begun ≡ loaded ++ file ∷ [] → now ≡ taking ++ length loaded ∷ [] → FromFile begun now from held outcome → InFile (names_at loaded taking) loaded file held outcome
added held loaded begun file taking now from outcome place all files numbers t =
    let last = ap (file_at begun) place ∙ ap (λ files. file_at files (length loaded)) files ∙ file_added loaded file in
    let names = ap (names_at begun) numbers ∙ ap (λ files. names_at files (taking ++ length loaded ∷ [])) files ∙ names_added loaded file taking all in
    subst (λ names. Takes held names (loaded ++ file ∷ []) file.name file.«module».imports outcome) names
    (subst (λ files. Takes held (names_at begun now) files file.name file.«module».imports outcome) files
    (subst (λ (file : LoadedFile). Takes held (names_at begun now) begun file.name file.«module».imports outcome) last t))

pub added_loaded : (files : Files) (before after : Asked) (loaded begun later : List LoadedFile) (file : LoadedFile) (taking now : List ℕ) (from : ℕ) → from ≡ length loaded → All (λ number. number < length loaded) taking
    → begun ≡ loaded ++ file ∷ [] → now ≡ taking ++ length loaded ∷ [] → Loaded files before after begun later (λ held. FromFile begun now from held (all_loaded later))
    → Loaded files before after (loaded ++ file ∷ []) later (λ held. InFile (names_at loaded taking) loaded file held (all_loaded later))
added_loaded files before after loaded begun later file taking now from place all is numbers l =
    subst (λ begun. Loaded files before after begun later (λ held. InFile (names_at loaded taking) loaded file held (all_loaded later))) is
    (loaded_so files before after begun later (λ held. FromFile begun now from held (all_loaded later)) (λ held. InFile (names_at loaded taking) loaded file held (all_loaded later))
    (λ held. added held loaded begun file taking now from (all_loaded later) place all is numbers) l)

pub added_ended : (files : Files) (before after : Asked) (loaded begun : List LoadedFile) (file : LoadedFile) (taking now : List ℕ) (from : ℕ) (refusal : DefFault) → from ≡ length loaded → All (λ number. number < length loaded) taking
    → begun ≡ loaded ++ file ∷ [] → now ≡ taking ++ length loaded ∷ [] → Ends files before after begun (FromFile begun now from) refusal
    → Ends files before after (loaded ++ file ∷ []) (InFile (names_at loaded taking) loaded file) refusal
added_ended files before after loaded begun file taking now from refusal place all is numbers e =
    subst (λ begun. Ends files before after begun (InFile (names_at loaded taking) loaded file) refusal) is
    (ends_so files before after begun (FromFile begun now from) (InFile (names_at loaded taking) loaded file)
    (λ held names fault. added held loaded begun file taking now from (stopped names fault) place all is numbers) refusal e)
