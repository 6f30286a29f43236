use Rattle.std.proofs.Common.{rules, ◌≡◌, ◌<◌, ◌+◌, [], ◌∷◌, length, vec_len, refl, sym, ◌∙◌, ap, subst, arith}
use Rattle.std.proofs.lemmas.List.{length-append}
use Rattle.std.specs.Prelude.{Ok, Err}
use Rattle.bdl_load.specs.declared.loader.TheConstants.{FILES_MAX}
use Rattle.bdl_load.specs.declared.faults.DefFault.{DefFault}
use Rattle.bdl_load.specs.declared.faults.DefFault.TheVariants.{Memory}
use Rattle.bdl_load.specs.Loader.{IsFound, IsChosen, AreSound, StopsImport, names_at}
use Rattle.bdl_load.proofs.Exits.{exit_err}
use Rattle.bdl_load.proofs.Treated.{halts_inside, treated_ok, treated_blamed, treated_refused, treated_unless, treated_exit, treated_after}
use Rattle.bdl_load.proofs.FilesSoFar.{sound_begun, sound_without_last, last_taken}
use Rattle.bdl_load.proofs.Taking.{none_taken, one_taken, one_ended, all_taken, added_loaded, added_ended}
use Rattle.bdl_load.proofs.Steps.{next_is, name_is, count_is, new_import, read_fresh, read_spelled, known_step, fetched_step, ended_step, halted_step, broken_step, missing_step, memory_step}
use Rattle.bdl_load.proofs.loader.Loader.+load.Goals as goal

pub take_import-returns-in_err-is_to_fetch-clause-fault : goal.take_import-returns-in_err-is_to_fetch-clause-fault
take_import-returns-in_err-is_to_fetch-clause-fault g t c =
    let files = g.L.Library.files c.args.library.now in
    let before = g.L.Library.asked c.args.library.now in
    let loaded = c.args.self.now.files.items in
    let taking = c.args.self.now.taking.items in
    let from = c.args.from in
    let number = c.args.number in
    let import = c.index-as_slice-number.result in
    let next = next_is loaded from number c.index-file.result.now c.as_slice.result.now import c.requires.within c.requires.counted c.index-file.ensures c.as_slice.ensures c.index-as_slice-number.is in
    let name = name_is loaded from c.index-file.result.now c.as_str.result.now c.requires.within c.index-file.ensures c.as_str.ensures.value in
    let refusal = c.in_err-is_to_fetch.field-0.0 in
    exit_err {E = DefFault} _ _ refusal c.from_residual.ensures.1
    (halted_step files before loaded taking from number import c.as_str.result.now refusal next c.requires.sound.distinct name c.in_err-is_to_fetch.ensures.fault)

pub take_import-returns-then-not-branch-clause-loaded : goal.take_import-returns-then-not-branch-clause-loaded
take_import-returns-then-not-branch-clause-loaded g t c =
    let files = g.L.Library.files c.args.library.now in
    let before = g.L.Library.asked c.args.library.now in
    let loaded = c.args.self.now.files.items in
    let taking = c.args.self.now.taking.items in
    let from = c.args.from in
    let number = c.args.number in
    let import = c.index-as_slice-number.result in
    let next = next_is loaded from number c.index-file.result.now c.as_slice.result.now import c.requires.within c.requires.counted c.index-file.ensures c.as_slice.ensures c.index-as_slice-number.is in
    let known = subst (IsChosen (names_at loaded taking) loaded import.file) c.if-not-branch.true c.in_ok-is_to_fetch.ensures.chosen in
    known_step files before loaded taking from number import next c.requires.sound.distinct known

pub take_import-returns-in_err-file-clause-fault : goal.take_import-returns-in_err-file-clause-fault
take_import-returns-in_err-file-clause-fault g t c =
    let files = g.L.Library.files c.args.library.now in
    let before = g.L.Library.asked c.args.library.now in
    let loaded = c.args.self.now.files.items in
    let taking = c.args.self.now.taking.items in
    let from = c.args.from in
    let number = c.args.number in
    let import = c.index-as_slice-number.result in
    let next = next_is loaded from number c.index-file.result.now c.as_slice.result.now import c.requires.within c.requires.counted c.index-file.ensures c.as_slice.ensures c.index-as_slice-number.is in
    let name = c.as_str-2.result.now in
    let fetched = subst (IsChosen (names_at loaded taking) loaded import.file) c.if-not-branch.false c.in_ok-is_to_fetch.ensures.chosen in
    let between = g.L.Library.asked c.fetch_file.new.library in
    let new = new_import loaded taking name import.file before between c.requires.sound.distinct fetched c.as_str-2.ensures.value c.fetch_file.ensures.asked in
    let refusal = c.in_err-file.field-0.0 in
    exit_err {E = DefFault} _ _ refusal c.from_residual-in_err-file.ensures.1
    (broken_step files before between loaded taking from number import name refusal next new fetched c.as_str-2.ensures.value c.in_err-file.ensures.fault)

pub take_import-returns-in_err-from-in-Some-clause-fault : goal.take_import-returns-in_err-from-in-Some-clause-fault
take_import-returns-in_err-from-in-Some-clause-fault g t c =
    let files = g.L.Library.files c.args.library.now in
    let before = g.L.Library.asked c.args.library.now in
    let loaded = c.args.self.now.files.items in
    let taking = c.args.self.now.taking.items in
    let from = c.args.from in
    let number = c.args.number in
    let import = c.index-as_slice-number.result in
    let next = next_is loaded from number c.index-file.result.now c.as_slice.result.now import c.requires.within c.requires.counted c.index-file.ensures c.as_slice.ensures c.index-as_slice-number.is in
    let name = c.as_str-2.result.now in
    let fetched = subst (IsChosen (names_at loaded taking) loaded import.file) c.if-not-branch.false c.in_ok-is_to_fetch.ensures.chosen in
    let between = g.L.Library.asked c.fetch_file.new.library in
    let new = new_import loaded taking name import.file before between c.requires.sound.distinct fetched c.as_str-2.ensures.value c.fetch_file.ensures.asked in
    exit_err {E = DefFault} _ _ Memory c.from_residual-in_err-from-in-Some.ensures.1 (memory_step files before between loaded taking from number import next new fetched)

pub take_import-take_imports-requires : goal.take_import-take_imports-requires
take_import-take_imports-requires g t c κs within =
    let files = g.L.Library.files c.args.library.now in
    let before = g.L.Library.asked c.args.library.now in
    let loaded = c.args.self.now.files.items in
    let taking = c.args.self.now.taking.items in
    let from = c.args.from in
    let number = c.args.number in
    let import = c.index-as_slice-number.result in
    let next = next_is loaded from number c.index-file.result.now c.as_slice.result.now import c.requires.within c.requires.counted c.index-file.ensures c.as_slice.ensures c.index-as_slice-number.is in
    let name = c.as_str-2.result.now in
    let fetched = subst (IsChosen (names_at loaded taking) loaded import.file) c.if-not-branch.false c.in_ok-is_to_fetch.ensures.chosen in
    let between = g.L.Library.asked c.fetch_file.new.library in
    let new = new_import loaded taking name import.file before between c.requires.sound.distinct fetched c.as_str-2.ensures.value c.fetch_file.ensures.asked in
    let told = g.L.Library.files c.fetch_file.new.library in
    let file = c.in-Some.file in
    let read = subst (IsFound files name) c.in-Some.is c.in_ok-file.ensures.found in
    let begun = c.begin.new.self.files.items in
    let now = c.begin.new.self.taking.items in
    let place = c.in_ok-from-in-Some.ensures.number in
    let grown = c.in_ok-from-in-Some.ensures.files in
    let numbers = c.in_ok-from-in-Some.ensures.taking in
    let fresh = read_fresh files loaded name import.file file read c.as_str-2.ensures.value fetched.fresh in
    let sound = sound_begun loaded begun file taking now c.requires.sound fresh fetched.room (read_spelled files name file read) grown numbers in
    let count : length begun ≡ length loaded + 1 = ap length grown ∙ length-append loaded (file ∷ []) in
    let room : length loaded < FILES_MAX = fetched.room in
    search rules

pub take_import-returns-in_err-take_imports-in-Some-clause-fault : goal.take_import-returns-in_err-take_imports-in-Some-clause-fault
take_import-returns-in_err-take_imports-in-Some-clause-fault g t c =
    let files = g.L.Library.files c.args.library.now in
    let before = g.L.Library.asked c.args.library.now in
    let loaded = c.args.self.now.files.items in
    let taking = c.args.self.now.taking.items in
    let from = c.args.from in
    let number = c.args.number in
    let import = c.index-as_slice-number.result in
    let next = next_is loaded from number c.index-file.result.now c.as_slice.result.now import c.requires.within c.requires.counted c.index-file.ensures c.as_slice.ensures c.index-as_slice-number.is in
    let name = c.as_str-2.result.now in
    let fetched = subst (IsChosen (names_at loaded taking) loaded import.file) c.if-not-branch.false c.in_ok-is_to_fetch.ensures.chosen in
    let between = g.L.Library.asked c.fetch_file.new.library in
    let new = new_import loaded taking name import.file before between c.requires.sound.distinct fetched c.as_str-2.ensures.value c.fetch_file.ensures.asked in
    let told = g.L.Library.files c.fetch_file.new.library in
    let file = c.in-Some.file in
    let read = subst (IsFound files name) c.in-Some.is c.in_ok-file.ensures.found in
    let begun = c.begin.new.self.files.items in
    let now = c.begin.new.self.taking.items in
    let place = c.in_ok-from-in-Some.ensures.number in
    let grown = c.in_ok-from-in-Some.ensures.files in
    let numbers = c.in_ok-from-in-Some.ensures.taking in
    let after = g.L.Library.asked c.take_imports.new.library in
    let refusal = c.in_err-take_imports-in-Some.field-0.0 in
    exit_err {E = DefFault} _ _ refusal c.from_residual-in_err-take_imports-in-Some.ensures.1
    (ended_step files told before between after loaded taking from number import name file refusal next new fetched c.as_str-2.ensures.value c.in_ok-file.ensures.library.same read
    (added_ended told between after loaded begun file taking now c.in_ok-from-in-Some.from refusal place c.requires.sound.taken grown numbers c.in_err-take_imports-in-Some.ensures.fault))

pub take_import-returns-in_ok-take_imports-in-Some-clause-sound : goal.take_import-returns-in_ok-take_imports-in-Some-clause-sound
take_import-returns-in_ok-take_imports-in-Some-clause-sound g t c =
    let taking = c.args.self.now.taking.items in
    let now = c.take_imports.new.self.taking.items in
    let last = length c.args.self.now.files.items in
    let kept = c.in_ok-take_imports-in-Some.ensures.taking ∙ c.in_ok-from-in-Some.ensures.taking in
    let popped = c.pop.ensures.rest ∙ last_taken taking now last (vec_len c.take_imports.new.self.taking) kept (omega arith) in
    subst (AreSound c.take_imports.new.self.files.items) (sym popped) (sound_without_last c.take_imports.new.self.files.items taking now last kept c.in_ok-take_imports-in-Some.ensures.sound)

pub take_import-returns-in_ok-take_imports-in-Some-clause-loaded : goal.take_import-returns-in_ok-take_imports-in-Some-clause-loaded
take_import-returns-in_ok-take_imports-in-Some-clause-loaded g t c =
    let files = g.L.Library.files c.args.library.now in
    let before = g.L.Library.asked c.args.library.now in
    let loaded = c.args.self.now.files.items in
    let taking = c.args.self.now.taking.items in
    let from = c.args.from in
    let number = c.args.number in
    let import = c.index-as_slice-number.result in
    let next = next_is loaded from number c.index-file.result.now c.as_slice.result.now import c.requires.within c.requires.counted c.index-file.ensures c.as_slice.ensures c.index-as_slice-number.is in
    let name = c.as_str-2.result.now in
    let fetched = subst (IsChosen (names_at loaded taking) loaded import.file) c.if-not-branch.false c.in_ok-is_to_fetch.ensures.chosen in
    let between = g.L.Library.asked c.fetch_file.new.library in
    let new = new_import loaded taking name import.file before between c.requires.sound.distinct fetched c.as_str-2.ensures.value c.fetch_file.ensures.asked in
    let told = g.L.Library.files c.fetch_file.new.library in
    let file = c.in-Some.file in
    let read = subst (IsFound files name) c.in-Some.is c.in_ok-file.ensures.found in
    let begun = c.begin.new.self.files.items in
    let now = c.begin.new.self.taking.items in
    let place = c.in_ok-from-in-Some.ensures.number in
    let grown = c.in_ok-from-in-Some.ensures.files in
    let numbers = c.in_ok-from-in-Some.ensures.taking in
    let after = g.L.Library.asked c.take_imports.new.library in
    let later = c.take_imports.new.self.files.items in
    fetched_step files told before between after loaded later taking from number import name file next new fetched c.as_str-2.ensures.value c.in_ok-file.ensures.library.same read
    (added_loaded told between after loaded begun later file taking now c.in_ok-from-in-Some.from place c.requires.sound.taken grown numbers c.in_ok-take_imports-in-Some.ensures.loaded)

pub take_import-returns-in-None-clause-fault : goal.take_import-returns-in-None-clause-fault
take_import-returns-in-None-clause-fault g t c =
    let files = g.L.Library.files c.args.library.now in
    let before = g.L.Library.asked c.args.library.now in
    let loaded = c.args.self.now.files.items in
    let taking = c.args.self.now.taking.items in
    let from = c.args.from in
    let number = c.args.number in
    let import = c.index-as_slice-number.result in
    let next = next_is loaded from number c.index-file.result.now c.as_slice.result.now import c.requires.within c.requires.counted c.index-file.ensures c.as_slice.ensures c.index-as_slice-number.is in
    let name = c.as_str-2.result.now in
    let fetched = subst (IsChosen (names_at loaded taking) loaded import.file) c.if-not-branch.false c.in_ok-is_to_fetch.ensures.chosen in
    let between = g.L.Library.asked c.fetch_file.new.library in
    let new = new_import loaded taking name import.file before between c.requires.sound.distinct fetched c.as_str-2.ensures.value c.fetch_file.ensures.asked in
    let text = c.as_str-from.result.now in
    let same = name_is loaded from c.index-file.result.now text c.requires.within c.index-file.ensures c.as_str-from.ensures.value in
    let none = subst (IsFound files name) c.in-None.is c.in_ok-file.ensures.found in
    missing_step files before between loaded taking from number import name text c.blame.result next new fetched c.as_str-2.ensures.value none same c.blame.ensures.says

pub take_imports-loop-number-init : goal.take_imports-loop-number-init
take_imports-loop-number-init g t c = record {
  sound = c.requires.sound;
  taking = refl;
  loaded = none_taken (g.L.Library.files c.args.library.now) (g.L.Library.asked c.args.library.now) c.args.self.now.files.items c.args.self.now.taking.items c.args.from c.requires.sound.distinct;
  treated = treated_ok g.L.Library.files g.L.Library.faults c.args.library.now tt;
}

pub take_imports-returns-in_err-take_import-clause-fault : goal.take_imports-returns-in_err-take_import-clause-fault
take_imports-returns-in_err-take_import-clause-fault g t c =
    let kept = c.loop-number.invariant in
    let refusal = c.in_err-take_import.field-0.0 in
    exit_err {E = DefFault} _ _ refusal c.from_residual.ensures.1
    (one_ended (g.L.Library.files c.args.library.now) (g.L.Library.files c.loop-number.library)
    (g.L.Library.asked c.args.library.now) (g.L.Library.asked c.loop-number.library) (g.L.Library.asked c.take_import.new.library)
    c.args.self.now.files.items c.loop-number.self.files.items c.args.self.now.taking.items c.loop-number.self.taking.items c.args.from c.loop-number.number refusal
    kept.treated.same c.requires.sound c.requires.within kept.taking kept.loaded c.in_err-take_import.ensures.fault)

pub take_imports-loop-number-preserved : goal.take_imports-loop-number-preserved
take_imports-loop-number-preserved g t c =
    let kept = c.loop-number.invariant in
    let now = c.in_ok-take_import.ensures in
    record {
      sound = now.sound;
      taking = now.taking ∙ kept.taking;
      loaded = one_taken (g.L.Library.files c.args.library.now) (g.L.Library.files c.loop-number.library)
          (g.L.Library.asked c.args.library.now) (g.L.Library.asked c.loop-number.library) (g.L.Library.asked c.take_import.new.library)
          c.args.self.now.files.items c.loop-number.self.files.items c.take_import.new.self.files.items
          c.args.self.now.taking.items c.loop-number.self.taking.items c.args.from c.loop-number.number kept.treated.same c.requires.sound c.requires.within kept.taking kept.loaded now.loaded;
      treated = treated_after g.L.Library.files g.L.Library.faults c.args.library.now c.loop-number.library c.take_import.new.library tt (Ok tt)
          kept.treated now.library;
    }

pub take_imports-returns-clause-loaded : goal.take_imports-returns-clause-loaded
take_imports-returns-clause-loaded g t c =
    let loaded = c.args.self.now.files.items in
    let all = count_is loaded c.args.from c.len-count.result c.loop-number.number c.index.result.now c.requires.within c.index.ensures c.len-count.ensures c.loop-number-test.false in
    all_taken (g.L.Library.files c.args.library.now) (g.L.Library.asked c.args.library.now) (g.L.Library.asked c.loop-number.library) loaded c.loop-number.self.files.items c.args.self.now.taking.items
    c.args.from c.loop-number.number all c.loop-number.invariant.loaded

pub take_import-returns-in_err-is_to_fetch-clause-library : goal.take_import-returns-in_err-is_to_fetch-clause-library
take_import-returns-in_err-is_to_fetch-clause-library g t c =
    let refusal = c.in_err-is_to_fetch.field-0.0 in
    treated_refused g.L.Library.files g.L.Library.faults c.args.library.now refusal c.from_residual.result c.from_residual.ensures.1
    (halts_inside (StopsImport c.args.self.now c.as_str.result.now c.index-as_slice-number.result) refusal c.in_err-is_to_fetch.ensures.fault)

pub take_import-returns-then-not-branch-clause-library : goal.take_import-returns-then-not-branch-clause-library
take_import-returns-then-not-branch-clause-library g t c = treated_ok g.L.Library.files g.L.Library.faults c.args.library.now tt

pub take_import-returns-in_err-file-clause-library : goal.take_import-returns-in_err-file-clause-library
take_import-returns-in_err-file-clause-library g t c =
    treated_exit g.L.Library.files g.L.Library.faults c.args.library.now c.fetch_file.new.library c.in_err-file.field-0.0
    c.from_residual-in_err-file.result c.from_residual-in_err-file.ensures.1 c.in_err-file.ensures.library

pub take_import-returns-in_err-from-in-Some-clause-library : goal.take_import-returns-in_err-from-in-Some-clause-library
take_import-returns-in_err-from-in-Some-clause-library g t c =
    let result = c.from_residual-in_err-from-in-Some.result in
    treated_after g.L.Library.files g.L.Library.faults c.args.library.now c.fetch_file.new.library c.fetch_file.new.library _ result
    c.in_ok-file.ensures.library
    (treated_unless g.L.Library.files g.L.Library.faults c.fetch_file.new.library result c.from_residual-in_err-from-in-Some.ensures.1)

pub take_import-returns-in_err-take_imports-in-Some-clause-library : goal.take_import-returns-in_err-take_imports-in-Some-clause-library
take_import-returns-in_err-take_imports-in-Some-clause-library g t c =
    let result = c.from_residual-in_err-take_imports-in-Some.result in
    treated_after g.L.Library.files g.L.Library.faults c.args.library.now c.fetch_file.new.library c.take_imports.new.library _ result
    c.in_ok-file.ensures.library
    (treated_exit g.L.Library.files g.L.Library.faults c.fetch_file.new.library c.take_imports.new.library
    c.in_err-take_imports-in-Some.field-0.0 result c.from_residual-in_err-take_imports-in-Some.ensures.1
    c.in_err-take_imports-in-Some.ensures.library)

pub take_import-returns-in_ok-take_imports-in-Some-clause-library : goal.take_import-returns-in_ok-take_imports-in-Some-clause-library
take_import-returns-in_ok-take_imports-in-Some-clause-library g t c =
    treated_after g.L.Library.files g.L.Library.faults c.args.library.now c.fetch_file.new.library c.take_imports.new.library _ (Ok tt)
    c.in_ok-file.ensures.library c.in_ok-take_imports-in-Some.ensures.library

pub take_import-returns-in-None-clause-library : goal.take_import-returns-in-None-clause-library
take_import-returns-in-None-clause-library g t c =
    treated_after g.L.Library.files g.L.Library.faults c.args.library.now c.fetch_file.new.library c.fetch_file.new.library _ (Err c.blame.result)
    c.in_ok-file.ensures.library
    (treated_blamed g.L.Library.files g.L.Library.faults c.fetch_file.new.library c.blame.result c.blame.ensures.inside)

pub take_imports-returns-in_err-take_import-clause-library : goal.take_imports-returns-in_err-take_import-clause-library
take_imports-returns-in_err-take_import-clause-library g t c =
    let result = c.from_residual.result in
    treated_after g.L.Library.files g.L.Library.faults c.args.library.now c.loop-number.library c.take_import.new.library tt result
    c.loop-number.invariant.treated
    (treated_exit g.L.Library.files g.L.Library.faults c.loop-number.library c.take_import.new.library c.in_err-take_import.field-0.0
    result c.from_residual.ensures.1 c.in_err-take_import.ensures.library)
