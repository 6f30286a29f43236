use Rattle.std.proofs.Common.{ℕ, ◌<◌, length, [], ◌∷◌, ◌++◌, ◌∙◌, ap, subst, arith}
use Rattle.std.specs.List.{All}
use Rattle.bdl_load.specs.declared.faults.DefFault.{DefFault}
use Rattle.bdl_load.specs.declared.faults.DefFault.TheVariants.{Memory}
use Rattle.bdl_load.specs.declared.files.LoadedFile.{LoadedFile}
use Rattle.bdl_load.specs.Loader.{IsFound}
use Rattle.bdl_load.specs.Loading.{is_among, file_names}
use Rattle.bdl_load.proofs.Answering.{end_fault, end_asked, loaded_all, loaded_asked}
use Rattle.bdl_load.proofs.Exits.{exit_err, exit_any, blames_any, blames_behind}
use Rattle.bdl_load.proofs.FilesSoFar.{sound_empty, sound_begun}
use Rattle.bdl_load.proofs.Steps.{read_spelled, root_memory, root_missing, root_broken, root_ended, root_loaded}
use Rattle.bdl_load.proofs.Taking.{added_ended, added_loaded}
use Rattle.bdl_load.proofs.loader.load.Goals as goal

-- no number is one of none
none_of : All (λ (number : ℕ). number < length {A = LoadedFile} []) []
none_of k d within = absurd (omega (arith, within))

pub returns-in_err-file-clause-fault : goal.returns-in_err-file-clause-fault
returns-in_err-file-clause-fault g c =
    let files = g.L.Library.files c.args.library.now in
    let before = g.L.Library.asked c.args.library.now in
    let root = c.args.root.now in
    let between = g.L.Library.asked c.fetch_file.new.library in
    let refusal = c.in_err-file.field-0.0 in
    exit_err {E = DefFault} _ _ refusal c.from_residual.ensures.1
    (end_fault files before between root refusal (root_broken files before between root refusal c.fetch_file.ensures.asked c.in_err-file.ensures.fault))

pub returns-in_err-file-clause-asked : goal.returns-in_err-file-clause-asked
returns-in_err-file-clause-asked g c =
    let files = g.L.Library.files c.args.library.now in
    let before = g.L.Library.asked c.args.library.now in
    let root = c.args.root.now in
    let between = g.L.Library.asked c.fetch_file.new.library in
    let refusal = c.in_err-file.field-0.0 in
    end_asked files before between root refusal (root_broken files before between root refusal c.fetch_file.ensures.asked c.in_err-file.ensures.fault)

pub returns-in_default-clause-fault : goal.returns-in_default-clause-fault
returns-in_default-clause-fault g c =
    let files = g.L.Library.files c.args.library.now in
    let before = g.L.Library.asked c.args.library.now in
    let root = c.args.root.now in
    let between = g.L.Library.asked c.fetch_file.new.library in
    let none = subst (IsFound files root) c.in_default.is c.in_ok-file.ensures.found in
    end_fault files before between root c.blame.result (root_missing files before between root c.blame.result c.fetch_file.ensures.asked none c.blame.ensures.says)

pub returns-in_default-clause-asked : goal.returns-in_default-clause-asked
returns-in_default-clause-asked g c =
    let files = g.L.Library.files c.args.library.now in
    let before = g.L.Library.asked c.args.library.now in
    let root = c.args.root.now in
    let between = g.L.Library.asked c.fetch_file.new.library in
    let none = subst (IsFound files root) c.in_default.is c.in_ok-file.ensures.found in
    end_asked files before between root c.blame.result (root_missing files before between root c.blame.result c.fetch_file.ensures.asked none c.blame.ensures.says)

pub returns-in_err-from-clause-asked : goal.returns-in_err-from-clause-asked
returns-in_err-from-clause-asked g c =
    let files = g.L.Library.files c.args.library.now in
    let before = g.L.Library.asked c.args.library.now in
    let root = c.args.root.now in
    let between = g.L.Library.asked c.fetch_file.new.library in
    end_asked files before between root Memory (root_memory files before between root c.fetch_file.ensures.asked)

pub take_imports-requires-clause-sound : goal.take_imports-requires-clause-sound
take_imports-requires-clause-sound g c =
    let files = g.L.Library.files c.args.library.now in
    let root = c.args.root.now in
    let file = c.in-Some.file in
    let read = subst (IsFound files root) c.in-Some.is c.in_ok-file.ensures.found in
    let none = c.new.ensures.items in
    sound_begun c.new.result.items c.begin.new.self.files.items file c.new-2.result.items c.begin.new.self.taking.items (sound_empty c.new.result.items c.new-2.result.items none c.new-2.ensures.items)
    (ap (λ files. is_among file.name (file_names files)) none) (omega (arith, ap length none)) (read_spelled files root file read) c.in_ok-from.ensures.files c.in_ok-from.ensures.taking

pub returns-in_err-take_imports-clause-fault : goal.returns-in_err-take_imports-clause-fault
returns-in_err-take_imports-clause-fault g c =
    let files = g.L.Library.files c.args.library.now in
    let before = g.L.Library.asked c.args.library.now in
    let root = c.args.root.now in
    let between = g.L.Library.asked c.fetch_file.new.library in
    let told = g.L.Library.files c.fetch_file.new.library in
    let after = g.L.Library.asked c.take_imports.new.library in
    let file = c.in-Some.file in
    let read = subst (IsFound files root) c.in-Some.is c.in_ok-file.ensures.found in
    let begun = c.begin.new.self.files.items in
    let now = c.begin.new.self.taking.items in
    let place = c.in_ok-from.ensures.number ∙ ap length c.new.ensures.items in
    let grown = c.in_ok-from.ensures.files ∙ ap (λ files. files ++ file ∷ []) c.new.ensures.items in
    let numbers = c.in_ok-from.ensures.taking ∙ ap (λ numbers. numbers ++ length c.new.result.items ∷ []) c.new-2.ensures.items ∙ ap (λ files. length files ∷ []) c.new.ensures.items in
    let refusal = c.in_err-take_imports.field-0.0 in
    let end = root_ended files told before between after root file refusal c.fetch_file.ensures.asked c.in_ok-file.ensures.library.same read
    (added_ended told between after [] begun file [] now c.in_ok-from.from refusal place none_of grown numbers c.in_err-take_imports.ensures.fault) in
    exit_err {E = DefFault} _ _ refusal c.from_residual-in_err-take_imports.ensures.1 (end_fault files before after root refusal end)

pub returns-in_err-take_imports-clause-asked : goal.returns-in_err-take_imports-clause-asked
returns-in_err-take_imports-clause-asked g c =
    let files = g.L.Library.files c.args.library.now in
    let before = g.L.Library.asked c.args.library.now in
    let root = c.args.root.now in
    let between = g.L.Library.asked c.fetch_file.new.library in
    let told = g.L.Library.files c.fetch_file.new.library in
    let after = g.L.Library.asked c.take_imports.new.library in
    let file = c.in-Some.file in
    let read = subst (IsFound files root) c.in-Some.is c.in_ok-file.ensures.found in
    let begun = c.begin.new.self.files.items in
    let now = c.begin.new.self.taking.items in
    let place = c.in_ok-from.ensures.number ∙ ap length c.new.ensures.items in
    let grown = c.in_ok-from.ensures.files ∙ ap (λ files. files ++ file ∷ []) c.new.ensures.items in
    let numbers = c.in_ok-from.ensures.taking ∙ ap (λ numbers. numbers ++ length c.new.result.items ∷ []) c.new-2.ensures.items ∙ ap (λ files. length files ∷ []) c.new.ensures.items in
    let refusal = c.in_err-take_imports.field-0.0 in
    let end = root_ended files told before between after root file refusal c.fetch_file.ensures.asked c.in_ok-file.ensures.library.same read
    (added_ended told between after [] begun file [] now c.in_ok-from.from refusal place none_of grown numbers c.in_err-take_imports.ensures.fault) in
    end_asked files before after root refusal end

pub returns-clause-loaded : goal.returns-clause-loaded
returns-clause-loaded g c =
    let files = g.L.Library.files c.args.library.now in
    let before = g.L.Library.asked c.args.library.now in
    let root = c.args.root.now in
    let between = g.L.Library.asked c.fetch_file.new.library in
    let told = g.L.Library.files c.fetch_file.new.library in
    let after = g.L.Library.asked c.take_imports.new.library in
    let file = c.in-Some.file in
    let read = subst (IsFound files root) c.in-Some.is c.in_ok-file.ensures.found in
    let begun = c.begin.new.self.files.items in
    let now = c.begin.new.self.taking.items in
    let place = c.in_ok-from.ensures.number ∙ ap length c.new.ensures.items in
    let grown = c.in_ok-from.ensures.files ∙ ap (λ files. files ++ file ∷ []) c.new.ensures.items in
    let numbers = c.in_ok-from.ensures.taking ∙ ap (λ numbers. numbers ++ length c.new.result.items ∷ []) c.new-2.ensures.items ∙ ap (λ files. length files ∷ []) c.new.ensures.items in
    let later = c.take_imports.new.self.files.items in
    let all = root_loaded files told before between after root file later c.fetch_file.ensures.asked c.in_ok-file.ensures.library.same read
    (added_loaded told between after [] begun later file [] now c.in_ok-from.from place none_of grown numbers c.in_ok-take_imports.ensures.loaded) in
    loaded_all files before after root later all

pub returns-clause-asked : goal.returns-clause-asked
returns-clause-asked g c =
    let files = g.L.Library.files c.args.library.now in
    let before = g.L.Library.asked c.args.library.now in
    let root = c.args.root.now in
    let between = g.L.Library.asked c.fetch_file.new.library in
    let told = g.L.Library.files c.fetch_file.new.library in
    let after = g.L.Library.asked c.take_imports.new.library in
    let file = c.in-Some.file in
    let read = subst (IsFound files root) c.in-Some.is c.in_ok-file.ensures.found in
    let begun = c.begin.new.self.files.items in
    let now = c.begin.new.self.taking.items in
    let place = c.in_ok-from.ensures.number ∙ ap length c.new.ensures.items in
    let grown = c.in_ok-from.ensures.files ∙ ap (λ files. files ++ file ∷ []) c.new.ensures.items in
    let numbers = c.in_ok-from.ensures.taking ∙ ap (λ numbers. numbers ++ length c.new.result.items ∷ []) c.new-2.ensures.items ∙ ap (λ files. length files ∷ []) c.new.ensures.items in
    let later = c.take_imports.new.self.files.items in
    let all = root_loaded files told before between after root file later c.fetch_file.ensures.asked c.in_ok-file.ensures.library.same read
    (added_loaded told between after [] begun later file [] now c.in_ok-from.from place none_of grown numbers c.in_ok-take_imports.ensures.loaded) in
    loaded_asked files before after root later all

pub returns-in_err-file-clause-blamed : goal.returns-in_err-file-clause-blamed
returns-in_err-file-clause-blamed g c = exit_err {E = DefFault} _ _ c.in_err-file.field-0.0 c.from_residual.ensures.1 c.in_err-file.ensures.library.blamed

pub returns-in_default-clause-blamed : goal.returns-in_default-clause-blamed
returns-in_default-clause-blamed g c = blames_any _ c.blame.result c.in_ok-file.ensures.library.steady

pub returns-in_err-from-clause-blamed : goal.returns-in_err-from-clause-blamed
returns-in_err-from-clause-blamed g c = exit_any _ c.from_residual-in_err-from.result c.in_ok-file.ensures.library.steady

pub returns-in_err-take_imports-clause-blamed : goal.returns-in_err-take_imports-clause-blamed
returns-in_err-take_imports-clause-blamed g c =
    let refusal = c.in_err-take_imports.field-0.0 in
    exit_err {E = DefFault} _ _ refusal c.from_residual-in_err-take_imports.ensures.1
    (blames_behind (g.L.Library.faults c.args.library.now) (g.L.Library.faults c.fetch_file.new.library) (g.L.Library.faults c.take_imports.new.library) refusal
    c.in_ok-file.ensures.library.steady c.in_err-take_imports.ensures.library.blamed)

pub returns-clause-steady : goal.returns-clause-steady
returns-clause-steady g c = c.in_ok-take_imports.ensures.library.steady ∙ c.in_ok-file.ensures.library.steady
