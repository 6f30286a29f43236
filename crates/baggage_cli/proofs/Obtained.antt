-- A table, or why there is none, and what a command makes of it.
use Rattle.std.proofs.Common.{◌≡◌, ◌⊎◌, inl, inr, ℕ, ◌-◌, List, [], ◌∷◌, length, take, Result, Ok, Err, refl, ◌∙◌, ap, subst, sym}
use Rattle.std.specs.Global.{Vec}
use Rattle.std.specs.List.{AllByRecursion}
use Rattle.std.specs.Result.{IsErrAnd}
use Rattle.bdl_load.specs.declared.faults.DefFault.{DefFault}
use Rattle.bdl_load.specs.declared.faults.DefFault.TheVariants as defs
use Rattle.bdl_load.specs.Faults.{Blames}
use Rattle.bdl_load.specs.Loading.{Holding, OfLibrary, AgreeButLast}
use Rattle.bag_model.specs.Shapes.{Nodes}
use Rattle.bdl_check.specs.Compiler.{IsFirstFaultOf}
use Rattle.baggage_cli.specs.declared.refusals.Notice.TheVariants.{LibraryFailed, Memory}
use Rattle.baggage_cli.specs.declared.refusals.Refusal.{Refusal}
use Rattle.baggage_cli.specs.declared.refusals.Refusal.TheVariants.{Plain}
use Rattle.baggage_cli.specs.Outcomes.{Outcome, outcome_of, Then}
use Rattle.baggage_cli.specs.Refusals.{refusal_of}
use Rattle.baggage_cli.specs.Scene.{Change, NeverFell, IsSteady, HasFailed}
use Rattle.baggage_cli.specs.Tables.{Origin, compiled, printed, FileGives, TableGives, AsksForTable, AsksFront, Obtains, Brings}

-- It is so of the files of the library, which was asked for all names that the table needs, and for no others.
abbrev pub CameFrom : Origin → Change Holding → Change (List (List ℕ)) → (Holding → Type 0) → Type 0
CameFrom origin library requests Holds =
    OfLibrary library.before requests.before requests.after (λ held names. Holds held × AsksForTable held origin names)

-- The library was asked for the first names that the table needs.
abbrev pub AsksSome : Origin → Change Holding → Change (List (List ℕ)) → Type 0
AsksSome origin library requests = OfLibrary library.before requests.before requests.after (λ held names. AsksFront held origin names)

-- ---- what is taken

err_one : {A : Type 0} (r s : Refusal) → ◌≡◌ {A = Result A Refusal} (Err r) (Err s) → r ≡ s
err_one r s e = cc e

-- Why something is taken or isn't.
abbrev pub Why : (A Wanting Failing Asking Steady Giving : Type 0) → Result A Refusal → Type 0
Why A Wanting Failing Asking Steady Giving outcome =
    ((outcome ≡ Err (Plain Memory)) × Wanting)
    ⊎ ((outcome ≡ Err (Plain LibraryFailed)) × Failing × Asking)
    ⊎ (Steady × Giving)

module _ {A Wanting Failing Asking Steady Giving : Type 0} where
  taken_steady : (outcome : Result A Refusal) → Why A Wanting Failing Asking Steady Giving outcome → (outcome ≡ Err (Plain Memory) → ⊥) → (outcome ≡ Err (Plain LibraryFailed) → ⊥) → Steady
  taken_steady outcome (inl wanting) some sure = absurd (some wanting.0)
  taken_steady outcome (inr (inl failed)) some sure = absurd (sure failed.0)
  taken_steady outcome (inr (inr given)) some sure = given.0

  -- What was given was given without a fault.
  pub given_steady : (value : A) → Why A Wanting Failing Asking Steady Giving (Ok value) → Steady
  given_steady value why = taken_steady (Ok value) why (λ e. cc e) (λ e. cc e)

  -- So is what is refused, where that is the outcome, the library didn't fail and memory didn't run
  -- out.
  pub refused_steady : (refusal : Refusal) → Why A Wanting Failing Asking Steady Giving (Err refusal) → (outcome : Outcome) → outcome ≡ Err refusal
      → (outcome ≡ Err (Plain Memory) → ⊥) → (outcome ≡ Err (Plain LibraryFailed) → ⊥) → Steady
  refused_steady refusal why outcome is some sure =
      taken_steady (Err refusal) why (λ e. some (is ∙ ap Err (err_one refusal (Plain Memory) e))) (λ e. sure (is ∙ ap Err (err_one refusal (Plain LibraryFailed) e)))

-- ---- definitions

compiled_refusal : (file bag : List ℕ) (library : Change Holding) (requests : Change (List (List ℕ))) (answer : DefFault)
    → Blames (λ fault. CameFrom (compiled file bag) library requests (λ held. IsFirstFaultOf held file bag fault)) answer
    → Blames (λ fault. IsSteady library) answer → AsksSome (compiled file bag) library requests → (answer ≡ defs.Failed → HasFailed library) → library.after ≡ library.before → NeverFell library
    → Obtains (compiled file bag) library requests (Err (refusal_of answer))
compiled_refusal file bag library requests (defs.At name line column code) (held, names, told, asks, (first, all)) steady asked failed same counts =
    (same, counts, inr (inr (steady, (held, names, told, asks, ((record { file = name; line = line; column = column; code = code }, first, refl), all)))))
compiled_refusal file bag library requests defs.Failed blames steady asked failed same counts = (same, counts, inr (inl (refl, failed refl, asked)))
compiled_refusal file bag library requests defs.Memory blames steady asked failed same counts = (same, counts, inl (refl, asked))

-- A definition that isn't compiled is why there is no table.
pub uncompiled : (file bag : List ℕ) (library : Change Holding) (requests : Change (List (List ℕ))) (answer : DefFault) (result : Result Nodes Refusal)
    → IsErrAnd result (λ other. other ≡ refusal_of answer)
    → Blames (λ fault. CameFrom (compiled file bag) library requests (λ held. IsFirstFaultOf held file bag fault)) answer
    → Blames (λ fault. IsSteady library) answer → AsksSome (compiled file bag) library requests → (answer ≡ defs.Failed → HasFailed library) → library.after ≡ library.before → NeverFell library
    → Obtains (compiled file bag) library requests result
uncompiled file bag library requests answer (Ok table) is blames steady asked failed same counts = absurd is
uncompiled file bag library requests answer (Err other) is blames steady asked failed same counts =
    subst (λ refusal. Obtains (compiled file bag) library requests (Err refusal)) (sym is) (compiled_refusal file bag library requests answer blames steady asked failed same counts)

-- ---- what is made of a table

-- Where there is no table, that is the refusal of a command that begins with one.
pub unobtained : (unbegun : Type 0) (rest : Nodes → Outcome → Type 0) (origin : Origin) (library : Change Holding) (requests : Change (List (List ℕ))) (refusal : Refusal) (result : Result (Vec ℕ) Refusal)
    → IsErrAnd result (λ other. other ≡ refusal) → Obtains origin library requests (Err refusal) → unbegun → Then (Obtains origin library requests) unbegun rest (outcome_of result)
unobtained unbegun rest origin library requests refusal (Ok output) is obtains idle = absurd is
unobtained unbegun rest origin library requests refusal (Err other) is obtains idle = inl (refusal, obtains, idle, ap Err is)

pub no_ok : (table : Nodes) (refusal : Refusal) → ◌≡◌ {A = Result Nodes Refusal} (Ok table) (Err refusal) → ⊥
no_ok table refusal e = cc e

-- A table that was taken came of the files of the library.
pub obtained_table : (origin : Origin) (library : Change Holding) (requests : Change (List (List ℕ))) (table : Nodes) → Obtains origin library requests (Ok table)
    → CameFrom origin library requests (λ held. TableGives origin held (Ok table))
obtained_table origin library requests table (same, counts, inl wanting) = absurd (no_ok table (Plain Memory) wanting.0)
obtained_table origin library requests table (same, counts, inr (inl failed)) = absurd (no_ok table (Plain LibraryFailed) failed.0)
obtained_table origin library requests table (same, counts, inr (inr (steady, came))) = came

-- The names of all files are the first names.
same_but_last : (held : Holding) (names : List (List ℕ)) → AgreeButLast names held held
same_but_last held names = each (take (length names - 1) names)
  where
    each : (those : List (List ℕ)) → AllByRecursion (λ name. held name ≡ held name) those
    each [] = tt
    each (name ∷ those) = (refl, each those)

names_front : (origin : Origin) (held : Holding) (names : List (List ℕ)) → AsksForTable held origin names → AsksFront held origin names
names_front (compiled file bag) held names all = (held, same_but_last held names, all)
names_front (printed file) held names all = all

-- Where a table comes to a refusal, memory may run out for it.
pub obtains_memory : (origin : Origin) (library : Change Holding) (requests : Change (List (List ℕ))) (refusal : Refusal)
    → Obtains origin library requests (Err refusal) → Obtains origin library requests (Err (Plain Memory))
obtains_memory origin library requests refusal (same, counts, inl wanting) = (same, counts, inl (refl, wanting.1))
obtains_memory origin library requests refusal (same, counts, inr (inl failed)) = (same, counts, inl (refl, failed.2))
obtains_memory origin library requests refusal (same, counts, inr (inr (steady, (held, names, told, asks, (gave, all))))) =
    (same, counts, inl (refl, (held, names, told, asks, names_front origin held names all)))

-- ---- a file

no_text : (text : List ℕ) (refusal : Refusal) → ◌≡◌ {A = Outcome} (Ok text) (Err refusal) → ⊥
no_text text refusal e = cc e

-- A file that was taken came of the files of the library.
pub brought_file : (file : List ℕ) (library : Change Holding) (requests : Change (List (List ℕ))) (text : List ℕ) → Brings file library requests (Ok text)
    → OfLibrary library.before requests.before requests.after (λ held names. FileGives file (held file) (Ok text) × (names ≡ file ∷ []))
brought_file file library requests text (same, counts, inl wanting) = absurd (no_text text (Plain Memory) wanting.0)
brought_file file library requests text (same, counts, inr (inl failed)) = absurd (no_text text (Plain LibraryFailed) failed.0)
brought_file file library requests text (same, counts, inr (inr (steady, came))) = came

-- Where a file comes to a refusal, memory may run out for it.
pub brings_memory : (file : List ℕ) (library : Change Holding) (requests : Change (List (List ℕ))) (refusal : Refusal)
    → Brings file library requests (Err refusal) → Brings file library requests (Err (Plain Memory))
brings_memory file library requests refusal (same, counts, inl wanting) = (same, counts, inl (refl, wanting.1))
brings_memory file library requests refusal (same, counts, inr (inl failed)) = (same, counts, inl (refl, failed.2))
brings_memory file library requests refusal (same, counts, inr (inr (steady, (held, names, told, asks, (gave, all))))) = (same, counts, inl (refl, (held, names, told, asks, all)))
