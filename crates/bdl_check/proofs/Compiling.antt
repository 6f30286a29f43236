-- What the steps of compiling say of files and of definitions.
use Rattle.std.proofs.Common.{◌≡◌, ℕ, List, [], ◌∷◌, refl, subst, sym}
use Rattle.std.specs.Prelude.{Result, Ok, Err, IfErr, IfSome, None, Some}
use Rattle.std.specs.List.{All}
use Rattle.std.specs.Result.{IsErrAnd}
use Rattle.std.proofs.lemmas.List.Concat.{flat_map-cons}
use Rattle.std.proofs.lemmas.List.Elements.{All-nil, All-append, All-head, All-tail, All-map}
use Rattle.outside.specs.Transfers.{Files, Asked}
use Rattle.bag_model.specs.Shapes.{Nodes}
use Rattle.outside.specs.declared.answers.OrMemory.{OrMemory}
use Rattle.outside.specs.declared.answers.OrMemory.TheVariants as refusals
use Rattle.bdl_check.specs.Declarations.{Placed, placed, placed_in, all_placed, AreSpelled}
use Rattle.bdl_check.specs.Checks.{declared_faults}
use Rattle.bdl_check.specs.Compiler.{AreFaultless, IsTableIn, IsFaultIn, IsTableOf, IsFirstFaultOf, CameOf}
use Rattle.bdl_check.specs.Faults.{RefusesFor}
use Rattle.bdl_check.specs.Recursion.{links}
use Rattle.bdl_check.specs.Tables.{IsUntabled}
use Rattle.bdl_load.specs.declared.faults.DefFault.{DefFault}
use Rattle.bdl_load.specs.declared.faults.DefFault.TheVariants as defs
use Rattle.bdl_load.specs.declared.faults.Fault.{Fault}
use Rattle.bdl_load.specs.declared.files.LoadedFile.{LoadedFile}
use Rattle.bdl_load.specs.Faults.{Blames, IsAnswerOf}
use Rattle.bdl_load.specs.Loading.{Holding, OfLibrary, Loads, all_loaded, stopped, file_names}
use Rattle.bdl_parser.specs.Decls.{IsSpelledDecl, AreSpelledDecls}
use Rattle.topological_order.specs.Graphs.{EdgeLists, LeadsTo}
use Rattle.topological_order.specs.Orders.{IsOrder}
use Rattle.bdl_check.proofs.Lists.{to_all}

-- ---- spelling

spelled_in : (file : LoadedFile) → AreSpelledDecls file.module.decls → AreSpelled (placed_in file)
spelled_in file h = All-map (λ (d : Placed). IsSpelledDecl d.decl) (placed file.name) file.module.decls (to_all IsSpelledDecl file.module.decls h)

-- The declarations of files that are spelled so are.
pub all_spelled : (files : List LoadedFile) → All (λ file. AreSpelledDecls file.module.decls) files → AreSpelled (all_placed files)
all_spelled [] h = All-nil (λ (d : Placed). IsSpelledDecl d.decl)
all_spelled (file ∷ files) h =
    let here = spelled_in file (All-head (λ (f : LoadedFile). AreSpelledDecls f.module.decls) file files h) in
    let rest = all_spelled files (All-tail (λ (f : LoadedFile). AreSpelledDecls f.module.decls) file files h) in
    subst (λ (ds : List Placed). AreSpelled ds) (sym (flat_map-cons placed_in file files))
    (All-append (λ (d : Placed). IsSpelledDecl d.decl) (placed_in file) (all_placed files) here rest)

-- ---- early returns

-- What an early return by `?` hands on.
pub exit_err : {T E : Type 0} (P Q : E → Type 0) (r : Result T E) → ((e : E) → P e → Q e) → IsErrAnd r P → IfErr r Q
exit_err P Q (Ok x) h is = tt
exit_err P Q (Err e) h is = h e is

-- What holds holds of each fault that is blamed.
blames_any : (P : Type 0) (answer : DefFault) → P → Blames (λ fault. P) answer
blames_any P (defs.At file line column code) p = p
blames_any P defs.Failed p = tt
blames_any P defs.Memory p = tt

pub exit_any : {T : Type 0} (P : Type 0) (r : Result T DefFault) → P → IfErr r (Blames (λ fault. P))
exit_any P (Ok x) p = tt
exit_any P (Err answer) p = blames_any P answer p

pub exit_same : {T : Type 0} (Q : DefFault → Type 0) (r : Result T DefFault) (answer : DefFault) → IsErrAnd r (λ other. other ≡ answer) → Q answer → IfErr r Q
exit_same Q (Ok x) answer is q = tt
exit_same Q (Err other) answer is q = subst Q (sym is) q

pub says_weaker : (P Q : Fault → Type 0) → ((f : Fault) → P f → Q f) → (r : OrMemory Fault) → RefusesFor P r → RefusesFor Q r
says_weaker P Q h (refusals.Fault f) p = h f p
says_weaker P Q h refusals.Memory p = tt

-- ---- files

-- Files whose declarations have no fault, and have an order, are sound.
pub sound_files : (files : List LoadedFile) (ds : List Placed) (order : List ℕ)
    → ((graph : EdgeLists) (order : List ℕ) (node : ℕ) → IsOrder graph order → LeadsTo graph node node → ⊥)
    → ds ≡ all_placed files → declared_faults files ≡ [] → IsOrder (links ds) order → AreFaultless files
sound_files files ds order exclude is none ordered = record {
  declared = none;
  acyclic = λ number walk. exclude (links (all_placed files)) order number (subst (λ (those : List Placed). IsOrder (links those) order) is ordered)
      walk;
}

pub untabled_files : (files : List LoadedFile) (ds : List Placed) (root name : List ℕ) → AreFaultless files → ds ≡ all_placed files
    → (refusal : OrMemory Fault)
    → RefusesFor (IsUntabled ds root name) refusal → RefusesFor (IsFaultIn files root name) refusal
untabled_files files ds root name sound is refusal says =
    says_weaker (IsUntabled ds root name) (IsFaultIn files root name)
    (λ f u. IsFaultIn.untabled sound (subst (λ (those : List Placed). IsUntabled those root name f) is u)) refusal says

-- ---- definitions

-- These are all files of the definition.
abbrev pub HasLoaded : Files → Asked → Asked → List ℕ → List LoadedFile → Type 0
HasLoaded files before after root loaded = OfLibrary files before after
    (λ held names. Loads held root (all_loaded loaded) × (names ≡ file_names loaded))

pub table_of_files : (files : Files) (before after : Asked) (root name : List ℕ) (loaded : List LoadedFile) (nodes : Nodes)
    → HasLoaded files before after root loaded → IsTableIn loaded name nodes
    → CameOf files before after root (λ held. IsTableOf held root name nodes)
table_of_files files before after root name loaded nodes (held, names, told, asks, (loads, all)) table =
    (held, names, told, asks, (record { files = loaded; loaded = loads; table = table }, (all_loaded loaded, loads, all)))

-- The answer blames the first fault of the definition.
abbrev pub BlamesFirst : Files → Asked → Asked → List ℕ → List ℕ → DefFault → Type 0
BlamesFirst files before after root name = Blames (λ fault. CameOf files before after root (λ held. IsFirstFaultOf held root name fault))

-- A fault of loading is the definition's first.
pub blames_loading : (files : Files) (before after : Asked) (root name : List ℕ) (answer : DefFault)
    → Blames (λ fault. OfLibrary files before after (λ held names. Loads held root (stopped names fault))) answer
    → BlamesFirst files before after root name answer
blames_loading files before after root name (defs.At file line column code) (held, names, told, asks, loads) =
    let fault : Fault = record { file = file; line = line; column = column; code = code } in
    (held, names, told, asks, (IsFirstFaultOf.unloaded names loads, (stopped names fault, loads, refl)))
blames_loading files before after root name defs.Failed b = tt
blames_loading files before after root name defs.Memory b = tt

-- And so is one of the files that were loaded.
pub blames_files : (files : Files) (before after : Asked) (root name : List ℕ) (loaded : List LoadedFile) → HasLoaded files before after root loaded
    → (refusal : OrMemory Fault) (answer : DefFault)
    → RefusesFor (IsFaultIn loaded root name) refusal → IsAnswerOf refusal answer → BlamesFirst files before after root name answer
blames_files files before after root name loaded (held, names, told, asks, (loads, all)) (refusals.Fault fault) answer says is =
    subst (BlamesFirst files before after root name) (sym is)
    (held, names, told, asks, (IsFirstFaultOf.loaded loaded loads says, (all_loaded loaded, loads, all)))
blames_files files before after root name loaded of refusals.Memory answer says is = subst (BlamesFirst files before after root name) (sym is) tt

-- What came of a library came of the files that it tells.
pub told_files : (files : Files) (before after : Asked) (root : List ℕ) (Holds : Holding → Type 0) → CameOf files before after root Holds
    → IfSome files Holds
told_files None before after root Holds (held, names, told, asks, (holds, all)) = tt
told_files (Some files) before after root Holds (held, names, told, asks, (holds, all)) = subst Holds (sym told) holds

-- A fault that the answer blames is the first of the files that a library tells.
pub told_blames : (files : Files) (before after : Asked) (root name : List ℕ) (answer : DefFault) → BlamesFirst files before after root name answer
    → IfSome files (λ held. Blames (IsFirstFaultOf held root name) answer)
told_blames files before after root name (defs.At file line column code) b =
    let fault : Fault = record { file = file; line = line; column = column; code = code } in
    told_files files before after root (λ held. IsFirstFaultOf held root name fault) b
told_blames None before after root name defs.Failed b = tt
told_blames None before after root name defs.Memory b = tt
told_blames (Some files) before after root name defs.Failed b = tt
told_blames (Some files) before after root name defs.Memory b = tt

-- An early return blames the first fault of the files that a library tells.
pub told_exit : {T : Type 0} (files : Files) (before after : Asked) (root name : List ℕ) (r : Result T DefFault)
    → IfErr r (BlamesFirst files before after root name)
    → IfSome files (λ held. IfErr r (Blames (IsFirstFaultOf held root name)))
told_exit None before after root name (Ok x) b = tt
told_exit (Some files) before after root name (Ok x) b = tt
told_exit files before after root name (Err e) b = told_blames files before after root name e b
