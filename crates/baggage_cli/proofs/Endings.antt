-- How a call that asks for a task ends.
use Rattle.std.proofs.Common.{◌≡◌, ◌⊎◌, inl, inr, ℕ, List, [], ◌∷◌, Option, Some, None, Result, Ok, Err, refl, ◌∙◌, ap, subst}
use Rattle.bag_model.specs.Shapes.{Nodes}
use Rattle.report_text.specs.Blocks.{IsBlock}
use Rattle.text_carrier.specs.Carrying.{carried_text}
use Rattle.text_lines.specs.Readings.{Reading}
use Rattle.bdl_load.specs.Loading.{Holding, OfLibrary}
use Rattle.graph_text.specs.Additions.{graph_of}
use Rattle.trace_model.specs.Graphs.{Graph}
use Rattle.text_carrier.specs.declared.faults.CarryFault.{CarryFault}
use Rattle.text_carrier.specs.declared.faults.CarryFault.TheVariants as pieces
use Rattle.text_lines.specs.Lines.{Line, lines_of}
use Rattle.baggage_cli.specs.declared.refusals.InputCode.TheVariants.{TooLong, NoLine, TooManyBytes, StepRange, NoSuchPath, Partial}
use Rattle.baggage_cli.specs.declared.refusals.InputFault.{InputFault}
use Rattle.baggage_cli.specs.declared.refusals.InputFault.TheVariants.{Code, Piece, Missing, Bytes}
use Rattle.baggage_cli.specs.declared.refusals.Notice.TheVariants.{LibraryFailed, SourceFailed, Memory}
use Rattle.baggage_cli.specs.declared.refusals.Refusal.{Refusal}
use Rattle.baggage_cli.specs.declared.refusals.Refusal.TheVariants.{Input, Plain}
use Rattle.command_line.specs.Commands.{Task, trim, merge, carry, collect, load, check, table as print_table, decode, run, run_json, run_table, evolve, why, verify}
use Rattle.baggage_cli.specs.Carry.{byte_lines}
use Rattle.baggage_cli.specs.Collect.{CollectsLines}
use Rattle.baggage_cli.specs.Delivery.{Delivers}
use Rattle.baggage_cli.specs.Why.{IsUnexplained, IsExplained, ExplainsLines}
use Rattle.baggage_cli.specs.Merge.{merged_lines, IsMergeLine}
use Rattle.baggage_cli.specs.Outcomes.{Outcome, Makes, Then}
use Rattle.baggage_cli.specs.Plans.{Plan, of_nothing, of_input, of_table, under_table, of_tables, under_both, plan, PlanReads, PlanFetches, PlanRefuses, PlanComes}
use Rattle.baggage_cli.specs.Reading.{IsInputRead, ReadsAll, Within, ReadsOne, ReadsLines, cut_lines, typed_lines}
use Rattle.baggage_cli.specs.Refusals.{status_of, refusal_line, input_status, input_line, notice_line, piece_refusal}
use Rattle.baggage_cli.specs.Run.{as_lines, as_json, IsRunReport, graph_inputs}
use Rattle.baggage_cli.specs.Scene.{Change, Halfway, until, since, Scene, IsSame, HasFailed, TakesWhole}
use Rattle.baggage_cli.specs.Tables.{Origin, compiled, printed, IsUntaken, FileGives, IsUnprinted, TableGives, AsksForTable, AsksFront, TakesFrom, Obtains}
use Rattle.baggage_cli.specs.Top.{Answers}
use Rattle.baggage_cli.specs.Trim.{trimmed_line}
use Rattle.baggage_cli.specs.Verify.{IsVerified}
use Rattle.baggage_cli.specs.Work.{ReadsBeside}
use Rattle.baggage_cli.proofs.Obtained.{CameFrom, obtained_table, brought_file}
use Rattle.baggage_cli.proofs.ToldFiles.{OfFiles, FilesGive, came_told, rose_behind, first_refused, second_refused, both_compared, table_refused, file_refused, file_given}

-- What an input gives, with a table that came of the files of the library where there is one.
abbrev pub Gives : Plan → Scene → List ℕ → Outcome → Type 0
Gives (of_nothing made) scene input outcome = ⊥
Gives (of_input gives) scene input outcome = Within gives input outcome
Gives (of_table origin text) scene input outcome = ⊥
Gives (under_table origin gives) scene input outcome =
    (table : Nodes) × OfFiles scene (under_table origin gives) (λ held. TableGives origin held (Ok table)) × Within (gives table) input outcome
Gives (of_tables old new gives) scene input outcome = ⊥
Gives (under_both origin file gives) scene input outcome =
    (table : Nodes) × (certificate : List ℕ) × OfFiles scene (under_both origin file gives) (λ held. TableGives origin held (Ok table) × FileGives file (held file) (Ok certificate))
    × Within (gives table certificate) input outcome

-- What is made of nothing.
abbrev pub Made : Plan → List ℕ → Type 0
Made (of_nothing made) output = made output
Made (of_input gives) output = ⊥
Made (of_table origin text) output = ⊥
Made (under_table origin gives) output = ⊥
Made (of_tables old new gives) output = ⊥
Made (under_both origin file gives) output = ⊥

-- What a call of a task answers that has this plan.
abbrev pub AnswersBy : Plan → Scene → ℕ → Type 0
AnswersBy way scene answer =
    (outcome : Outcome) × PlanComes way scene.library scene.requests scene.source outcome × Delivers outcome scene.out scene.errs answer

-- The line was said, and nothing was written.
abbrev pub Said : Scene → List ℕ → Type 0
Said scene line = IsSame scene.out × TakesWhole scene.errs line

-- The output was written, and nothing was said.
abbrev pub Written : Scene → List ℕ → Type 0
Written scene output = TakesWhole scene.out output × IsSame scene.errs

pub data Ending (way : Plan) (scene : Scene) (answer : ℕ) : Type 0 where
  read_out : (input output : List ℕ) → answer ≡ 0 → PlanReads way → IsInputRead scene.source input → Gives way scene input (Ok output)
      → Written scene output → Ending way scene answer
  files_out : (output : List ℕ) → answer ≡ 0 → PlanFetches way → (PlanReads way → ⊥) → OfFiles scene way (λ held. FilesGive way held output)
      → IsSame scene.source → Written scene output → Ending way scene answer
  made_out : (output : List ℕ) → answer ≡ 0 → (PlanReads way → ⊥) → (PlanFetches way → ⊥) → Made way output → IsSame scene.source → Written scene output
      → Ending way scene answer
  bad_input : (input : List ℕ) (number : ℕ) (fault : InputFault) → answer ≡ input_status fault → PlanReads way → IsInputRead scene.source input
      → Gives way scene input (Err (Input number fault)) → Said scene (input_line number fault) → Ending way scene answer
  bad_files : (refusal : Refusal) → answer ≡ 1 → PlanFetches way → OfFiles scene way (λ held. PlanRefuses way held refusal)
      → IsSame scene.source → Said scene (refusal_line refusal) → Ending way scene answer
  library_failed : answer ≡ 4 → PlanFetches way → HasFailed scene.library → Said scene (notice_line LibraryFailed) → Ending way scene answer
  source_failed : answer ≡ 4 → PlanReads way → HasFailed scene.source → Said scene (notice_line SourceFailed) → Ending way scene answer
  memory_wanting : answer ≡ 6 → Said scene (notice_line Memory) → Ending way scene answer
  sink_failed : answer ≡ 5 → HasFailed scene.out ⊎ HasFailed scene.errs → Ending way scene answer

-- ---- how an outcome is delivered

output_delivered : (scene : Scene) (answer : ℕ) (outcome : Outcome) (output : List ℕ) → outcome ≡ Ok output → Delivers outcome scene.out scene.errs answer
    → ((answer ≡ 0) × Written scene output) ⊎ ((answer ≡ 5) × HasFailed scene.out)
output_delivered scene answer outcome output is delivers = by (subst (λ o. Delivers o scene.out scene.errs answer) is delivers)
  where
    by : Delivers (Ok output) scene.out scene.errs answer → ((answer ≡ 0) × Written scene output) ⊎ ((answer ≡ 5) × HasFailed scene.out)
    by (inl done) = inl (done.0, (done.1, done.2))
    by (inr failed) = inr (failed.0, failed.1.0)

refusal_delivered : (scene : Scene) (answer : ℕ) (outcome : Outcome) (refusal : Refusal) → outcome ≡ Err refusal → Delivers outcome scene.out scene.errs answer
    → ((answer ≡ status_of refusal) × Said scene (refusal_line refusal)) ⊎ ((answer ≡ 5) × HasFailed scene.errs)
refusal_delivered scene answer outcome refusal is delivers = by (subst (λ o. Delivers o scene.out scene.errs answer) is delivers)
  where
    by : Delivers (Err refusal) scene.out scene.errs answer → ((answer ≡ status_of refusal) × Said scene (refusal_line refusal)) ⊎ ((answer ≡ 5) × HasFailed scene.errs)
    by (same, inl told) = inl (told.0, (same, told.1))
    by (same, inr failed) = inr (failed.0, failed.1.0)

-- ---- tasks that read the source

-- What is wrong with lines of pieces is reported of a line of the input.
of_pieces : (fault : CarryFault) → (fault ≡ pieces.Memory → ⊥) → (number : ℕ) × (its : InputFault) × (piece_refusal fault ≡ Input number its)
of_pieces (pieces.At line code) found = (line, Piece code, refl)
of_pieces pieces.NoLine found = (0, Code NoLine, refl)
of_pieces (pieces.Missing piece) found = (0, Missing piece, refl)
of_pieces pieces.TooManyBytes found = (0, Code TooManyBytes, refl)
of_pieces pieces.Memory found = absurd (found refl)

-- A graph without a certificate is refused as a whole.
left_for : (table : Nodes) (graph : Graph) (step : ℕ) (path : List ℕ) (refusal : Refusal) → IsUnexplained table graph step path refusal → (fault : InputFault) × (refusal ≡ Input 0 fault)
left_for table graph step path refusal (inl (inl (big, is))) = (Code StepRange, is)
left_for table graph step path refusal (inl (inr (small, none, is))) = (Code NoSuchPath, is)
left_for table graph step path refusal (inr (lists, slot, ran, place, unended, is)) = (Code Partial, is)

-- What lines are refused for is what is wrong with an input or a line of it.
abbrev pub BlamesInput : (List Line → Outcome → Type 0) → Type 0
BlamesInput gives = (lines : List Line) (refusal : Refusal) → gives lines (Err refusal) → (number : ℕ) × (fault : InputFault) × (refusal ≡ Input number fault)

blames_lines : {A : Type 0} (reading : Reading A InputFault) (gives : List A → List ℕ → Type 0) → BlamesInput (ReadsLines reading gives)
blames_lines reading gives lines refusal (number, fault, bad, is) = (number, fault, is)

blames_one : {A : Type 0} (reading : Reading A InputFault) (gives : A → List ℕ → Type 0) → BlamesInput (ReadsOne reading gives)
blames_one reading gives lines refusal (inl none) = (0, Code NoLine, cc (none.1))
blames_one reading gives lines refusal (inr (number, fault, bad, is)) = (number, fault, is)

blames_pieces : BlamesInput CollectsLines
blames_pieces lines refusal (inl (fault, found, collects, is)) = let (number, its, same) = of_pieces fault found in (number, its, is ∙ same)
blames_pieces lines refusal (inr (bytes, offset, code, collects, first, is)) = (0, Bytes offset code, is)

blames_place : (step : ℕ) (path : List ℕ) (table : Nodes) → BlamesInput (ExplainsLines step path table)
blames_place step path table lines refusal (inl (number, fault, bad, is)) = (number, fault, is)
blames_place step path table lines refusal (inr (every, left, all, reason, is)) =
    let (fault, left_is) = left_for table (graph_of every) step path left reason in
    let same : refusal ≡ left = cc is in
    (0, fault, same ∙ left_is)

-- It is so of all that a plan makes of lines.
abbrev pub Blames : Plan → Type 0
Blames (of_nothing made) = Unit {0}
Blames (of_input gives) = BlamesInput gives
Blames (of_table origin text) = Unit {0}
Blames (under_table origin gives) = (table : Nodes) → BlamesInput (gives table)
Blames (of_tables old new gives) = Unit {0}
Blames (under_both origin file gives) = (table : Nodes) (certificate : List ℕ) → BlamesInput (gives table certificate)

blames : (task : Task) → Blames (plan task)
blames (trim budget) = blames_one (cut_lines budget) (λ said output. output ≡ trimmed_line budget said)
blames merge = blames_lines merged_lines IsMergeLine
blames (carry width) = blames_one byte_lines (λ bytes output. output ≡ carried_text width bytes)
blames collect = blames_pieces
blames (load rounds) = tt
blames (check file bag) = tt
blames (print_table file bag) = tt
blames (decode file bag) = λ table. blames_one (typed_lines table) (λ said. IsBlock table said.0 said.1)
blames (run file bag) = λ table. blames_lines (graph_inputs table) (λ every output. IsRunReport as_lines table (graph_of every) output)
blames (run_table file) = λ table. blames_lines (graph_inputs table) (λ every output. IsRunReport as_lines table (graph_of every) output)
blames (run_json file bag) = λ table. blames_lines (graph_inputs table) (λ every output. IsRunReport as_json table (graph_of every) output)
blames (evolve old new bag) = tt
blames (why file bag step path) = λ table. blames_place step path table
blames (verify file bag name) = λ table certificate. blames_lines (graph_inputs table) (λ every output. IsVerified table certificate (graph_of every) output)

refuses_input : (way : Plan) → Blames way → (scene : Scene) (input : List ℕ) (refusal : Refusal) → Gives way scene input (Err refusal) → (number : ℕ) × (fault : InputFault) × (refusal ≡ Input number fault)
refuses_input (of_nothing made) blame scene input refusal gave = absurd gave
refuses_input (of_input gives) blame scene input refusal (inl long) = (0, Code TooLong, cc (long.1))
refuses_input (of_input gives) blame scene input refusal (inr (short, refused)) = blame (lines_of input) refusal refused
refuses_input (of_table origin text) blame scene input refusal gave = absurd gave
refuses_input (under_table origin gives) blame scene input refusal (table, came, inl long) = (0, Code TooLong, cc (long.1))
refuses_input (under_table origin gives) blame scene input refusal (table, came, inr (short, refused)) = blame table (lines_of input) refusal refused
refuses_input (of_tables old new gives) blame scene input refusal gave = absurd gave
refuses_input (under_both origin file gives) blame scene input refusal (table, certificate, came, inl long) = (0, Code TooLong, cc (long.1))
refuses_input (under_both origin file gives) blame scene input refusal (table, certificate, came, inr (short, refused)) = blame table certificate (lines_of input) refusal refused

input_ending : (way : Plan) → Blames way → (scene : Scene) (answer : ℕ) (input : List ℕ) (outcome : Outcome) → PlanReads way → IsInputRead scene.source input → Gives way scene input outcome
    → Delivers outcome scene.out scene.errs answer → Ending way scene answer
input_ending way blame scene answer input (Ok output) reads read gave delivers = elim (output_delivered scene answer (Ok output) output refl delivers) [
  | inl done ↦ read_out input output done.0 reads read gave done.1
  | inr failed ↦ sink_failed failed.0 (inl failed.1)
]
input_ending way blame scene answer input (Err refusal) reads read gave delivers =
    let found = refuses_input way blame scene input refusal gave in
    elim (refusal_delivered scene answer (Err refusal) (Input found.0 found.1) (ap Err found.2) delivers) [
      | inl said ↦ bad_input input found.0 found.1 said.0 reads read (subst (λ r. Gives way scene input (Err r)) found.2 gave) said.1
      | inr failed ↦ sink_failed failed.0 (inr failed.1)
    ]

-- The source is read, and what its input gives is what it gives by the plan.
reading_ending : (way : Plan) → Blames way → (scene : Scene) (answer : ℕ) (outcome : Outcome) (gives : List ℕ → Outcome → Type 0) → PlanReads way
    → ((input : List ℕ) → gives input outcome → Gives way scene input outcome) → ReadsAll gives scene.source outcome
    → Delivers outcome scene.out scene.errs answer → Ending way scene answer
reading_ending way blame scene answer outcome gives reads turns (counts, inl wanting) delivers = elim (refusal_delivered scene answer outcome (Plain Memory) wanting delivers) [
  | inl said ↦ memory_wanting said.0 said.1
  | inr failed ↦ sink_failed failed.0 (inr failed.1)
]
reading_ending way blame scene answer outcome gives reads turns (counts, inr (inl unread)) delivers = elim (refusal_delivered scene answer outcome (Plain SourceFailed) unread.0 delivers) [
  | inl said ↦ source_failed said.0 reads unread.1 said.1
  | inr failed ↦ sink_failed failed.0 (inr failed.1)
]
reading_ending way blame scene answer outcome gives reads turns (counts, inr (inr (input, read, gave))) delivers = input_ending way blame scene answer input outcome reads read (turns input gave) delivers

-- ---- tasks that take a table

err_same : (A : Type 0) (r s : Refusal) → ◌≡◌ {A = Result A Refusal} (Err r) (Err s) → r ≡ s
err_same A r s e = cc e

untaken_status : (file : List ℕ) (content : Option (List ℕ)) (refusal : Refusal) → IsUntaken file content refusal → status_of refusal ≡ 1
untaken_status file None refusal is = ap status_of is
untaken_status file (Some text) refusal is = ap status_of is.1

unprinted_status : (file : List ℕ) (content : Option (List ℕ)) (refusal : Refusal) → IsUnprinted file content refusal → status_of refusal ≡ 1
unprinted_status file None refusal is = ap status_of is
unprinted_status file (Some text) refusal (inl long) = ap status_of long.1
unprinted_status file (Some text) refusal (inr (short, (line, code, bad, is))) = ap status_of is

-- The status of what is wrong with where a table comes from.
table_status : (origin : Origin) (held : Holding) (refusal : Refusal) → TableGives origin held (Err refusal) → status_of refusal ≡ 1
table_status (compiled file bag) held refusal (fault, first, is) = ap status_of is
table_status (printed file) held refusal bad = unprinted_status file (held file) refusal bad

-- A task without something that it takes from files with this part of the changes of the library.
untaken_ending : (A : Type 0) (Front All : Holding → List (List ℕ) → Type 0) (gives : Holding → Result A Refusal → Type 0) (way : Plan) (scene : Scene) (library : Change Holding) (requests : Change (List (List ℕ)))
    → (answer : ℕ) (refusal : Refusal) (outcome : Outcome) → PlanFetches way → (HasFailed library → HasFailed scene.library)
    → ((held : Holding) → gives held (Err refusal) → status_of refusal ≡ 1)
    → (OfLibrary library.before requests.before requests.after (λ held names. gives held (Err refusal) × All held names) → OfFiles scene way (λ held. PlanRefuses way held refusal))
    → TakesFrom Front All gives library requests (Err refusal) → IsSame scene.source
    → outcome ≡ Err refusal → Delivers outcome scene.out scene.errs answer → Ending way scene answer
untaken_ending A Front All gives way scene library requests answer refusal outcome fetches rises status turns (same, counts, inl wanting) unread is delivers = elim (refusal_delivered scene answer outcome (Plain Memory) (is ∙ ap Err (err_same A refusal (Plain Memory) wanting.0)) delivers) [
  | inl said ↦ memory_wanting said.0 said.1
  | inr failed ↦ sink_failed failed.0 (inr failed.1)
]
untaken_ending A Front All gives way scene library requests answer refusal outcome fetches rises status turns (same, counts, inr (inl lost)) unread is delivers = elim (refusal_delivered scene answer outcome (Plain LibraryFailed) (is ∙ ap Err (err_same A refusal (Plain LibraryFailed) lost.0)) delivers) [
  | inl said ↦ library_failed said.0 fetches (rises lost.1) said.1
  | inr failed ↦ sink_failed failed.0 (inr failed.1)
]
untaken_ending A Front All gives way scene library requests answer refusal outcome fetches rises status turns (same, counts, inr (inr (steady, (held, names, told, asked, (gave, all))))) unread is delivers =
    elim (refusal_delivered scene answer outcome refusal is delivers) [
      | inl said ↦ bad_files refusal (said.0 ∙ status held gave) fetches (turns (held, names, told, asked, (gave, all))) unread said.1
      | inr failed ↦ sink_failed failed.0 (inr failed.1)
    ]

-- A task without a table.
untabled_ending : (way : Plan) (origin : Origin) (scene : Scene) (library : Change Holding) (requests : Change (List (List ℕ))) (answer : ℕ) (refusal : Refusal) (outcome : Outcome)
    → PlanFetches way → (HasFailed library → HasFailed scene.library)
    → (CameFrom origin library requests (λ held. TableGives origin held (Err refusal)) → OfFiles scene way (λ held. PlanRefuses way held refusal))
    → Obtains origin library requests (Err refusal) → IsSame scene.source
    → outcome ≡ Err refusal → Delivers outcome scene.out scene.errs answer → Ending way scene answer
untabled_ending way origin scene library requests answer refusal outcome fetches rises turns obtains unread is delivers =
    untaken_ending Nodes (λ held names. AsksFront held origin names) (λ held names. AsksForTable held origin names) (λ held outcome. TableGives origin held outcome) way scene library requests answer refusal outcome fetches rises
    (λ held bad. table_status origin held refusal bad) turns obtains unread is delivers

-- A task that makes something of its files alone.
files_ending : (way : Plan) (scene : Scene) (answer : ℕ) (output : List ℕ) (outcome : Outcome) → PlanFetches way → (PlanReads way → ⊥) → OfFiles scene way (λ held. FilesGive way held output)
    → outcome ≡ Ok output → IsSame scene.source → Delivers outcome scene.out scene.errs answer → Ending way scene answer
files_ending way scene answer output outcome fetches unasked gave is unread delivers =
    elim (output_delivered scene answer outcome output is delivers) [
      | inl done ↦ files_out output done.0 fetches unasked gave unread done.1
      | inr failed ↦ sink_failed failed.0 (inl failed.1)
    ]

-- Memory ran out.
wanting_ending : (way : Plan) (scene : Scene) (answer : ℕ) (outcome : Outcome) → outcome ≡ Err (Plain Memory) → Delivers outcome scene.out scene.errs answer → Ending way scene answer
wanting_ending way scene answer outcome wanting delivers = elim (refusal_delivered scene answer outcome (Plain Memory) wanting delivers) [
  | inl said ↦ memory_wanting said.0 said.1
  | inr failed ↦ sink_failed failed.0 (inr failed.1)
]

-- A table of which something is made.
table_ending : (origin : Origin) (text : Nodes → List ℕ) (scene : Scene) (answer : ℕ) (table : Nodes) (outcome : Outcome) → Obtains origin scene.library scene.requests (Ok table)
    → (outcome ≡ Err (Plain Memory)) ⊎ (outcome ≡ Ok (text table)) → IsSame scene.source → Delivers outcome scene.out scene.errs answer → Ending (of_table origin text) scene answer
table_ending origin text scene answer table outcome obtains (inl wanting) unread delivers = wanting_ending (of_table origin text) scene answer outcome wanting delivers
table_ending origin text scene answer table outcome obtains (inr built) unread delivers =
    files_ending (of_table origin text) scene answer (text table) outcome tt (λ reads. reads) gave built unread delivers
  where
    gave : OfFiles scene (of_table origin text) (λ held. FilesGive (of_table origin text) held (text table))
    gave held told =
        let (is, all) = came_told origin scene.library scene.requests (λ h. TableGives origin h (Ok table)) held told (obtained_table origin scene.library scene.requests table obtains) in
        ((table, is, refl), all)

-- The second of two tables was taken, or why there is none, and they were compared.
second_ending : (old new : Origin) (gives : Nodes → Nodes → List ℕ → Type 0) (scene : Scene) (answer : ℕ) (half : Halfway) (before : Nodes) (outcome : Outcome)
    → Obtains old (until half.files half.faults scene.library) (until half.asked half.faults scene.requests) (Ok before) → IsSame scene.source
    → Then (Obtains new (since half.files half.faults scene.library) (since half.asked half.faults scene.requests)) (Unit {0}) (λ after. Makes (gives before after)) outcome
    → Delivers outcome scene.out scene.errs answer → Ending (of_tables old new gives) scene answer
second_ending old new gives scene answer half before outcome taken unread (inl (refusal, obtains, begun, is)) delivers =
    untabled_ending (of_tables old new gives) new scene (since half.files half.faults scene.library) (since half.asked half.faults scene.requests) answer refusal outcome
    tt (rose_behind scene.library.faults_before half.faults scene.library.faults_after taken.1) (second_refused old new gives scene half before taken refusal) obtains unread is delivers
second_ending old new gives scene answer half before outcome taken unread (inr (after, obtains, inl wanting)) delivers = wanting_ending (of_tables old new gives) scene answer outcome wanting delivers
second_ending old new gives scene answer half before outcome taken unread (inr (after, obtains, inr (line, right, is))) delivers =
    files_ending (of_tables old new gives) scene answer line outcome tt (λ reads. reads)
    (both_compared old new gives scene half before taken after line (obtained_table new (since half.files half.faults scene.library) (since half.asked half.faults scene.requests) after obtains) right) is unread delivers

-- The certificate was taken after the table, or why there is none, and the source was read.
file_ending : (origin : Origin) (file : List ℕ) (gives : Nodes → List ℕ → List Line → Outcome → Type 0) → Blames (under_both origin file gives) → (scene : Scene) (answer : ℕ) (half : Halfway) (table : Nodes) (outcome : Outcome)
    → Obtains origin (until half.files half.faults scene.library) (until half.asked half.faults scene.requests) (Ok table)
    → ReadsBeside file (gives table) scene.source (since half.files half.faults scene.library) (since half.asked half.faults scene.requests) outcome
    → Delivers outcome scene.out scene.errs answer → Ending (under_both origin file gives) scene answer
file_ending origin file gives blame scene answer half table outcome taken (inl (refusal, brings, unread, is)) delivers =
    untaken_ending (List ℕ) (λ held names. names ≡ file ∷ []) (λ held names. names ≡ file ∷ []) (λ held outcome. FileGives file (held file) outcome) (under_both origin file gives) scene
    (since half.files half.faults scene.library) (since half.asked half.faults scene.requests) answer refusal outcome
    tt (rose_behind scene.library.faults_before half.faults scene.library.faults_after taken.1) (λ held bad. untaken_status file (held file) refusal bad)
    (file_refused origin file gives scene half table taken refusal) brings unread is delivers
file_ending origin file gives blame scene answer half table outcome taken (inr (certificate, brings, reads)) delivers =
    reading_ending (under_both origin file gives) blame scene answer outcome (Within (gives table certificate)) tt (λ input gave. (table, certificate, given, gave)) reads delivers
  where
    given : OfFiles scene (under_both origin file gives) (λ held. TableGives origin held (Ok table) × FileGives file (held file) (Ok certificate))
    given = file_given origin file gives scene half table taken certificate
        (brought_file file (since half.files half.faults scene.library) (since half.asked half.faults scene.requests) certificate brings)

-- ---- what is made of nothing

made_ending : (made : List ℕ → Type 0) (scene : Scene) (answer : ℕ) (outcome : Outcome) → IsSame scene.source → Makes made outcome → Delivers outcome scene.out scene.errs answer
    → Ending (of_nothing made) scene answer
made_ending made scene answer outcome unread (inl wanting) delivers = wanting_ending (of_nothing made) scene answer outcome wanting delivers
made_ending made scene answer outcome unread (inr (output, holds, is)) delivers =
    elim (output_delivered scene answer outcome output is delivers) [
      | inl done ↦ made_out output done.0 (λ reads. reads) (λ fetches. fetches) holds unread done.1
      | inr failed ↦ sink_failed failed.0 (inl failed.1)
    ]

-- ---- all plans

plan_ending : (way : Plan) → Blames way → (scene : Scene) (answer : ℕ) → AnswersBy way scene answer → Ending way scene answer
plan_ending (of_nothing made) blame scene answer (outcome, (same, unasked, unread, makes), delivers) = made_ending made scene answer outcome unread makes delivers
plan_ending (of_input gives) blame scene answer (outcome, (same, unasked, reads), delivers) =
    reading_ending (of_input gives) blame scene answer outcome (Within gives) tt (λ input gave. gave) reads delivers
plan_ending (of_table origin text) blame scene answer (outcome, (unread, inl (refusal, obtains, begun, is)), delivers) =
    untabled_ending (of_table origin text) origin scene scene.library scene.requests answer refusal outcome tt (λ failed. failed)
    (λ came. λ held told. came_told origin scene.library scene.requests (λ h. TableGives origin h (Err refusal)) held told came) obtains unread is delivers
plan_ending (of_table origin text) blame scene answer (outcome, (unread, inr (table, obtains, built)), delivers) =
    table_ending origin text scene answer table outcome obtains built unread delivers
plan_ending (under_table origin gives) blame scene answer (outcome, inl (refusal, obtains, unread, is), delivers) =
    untabled_ending (under_table origin gives) origin scene scene.library scene.requests answer refusal outcome tt (λ failed. failed)
    (λ came. λ held told. came_told origin scene.library scene.requests (λ h. TableGives origin h (Err refusal)) held told came) obtains unread is delivers
plan_ending (under_table origin gives) blame scene answer (outcome, inr (table, obtains, reads), delivers) =
    reading_ending (under_table origin gives) blame scene answer outcome (Within (gives table)) tt (λ input gave. (table, given, gave)) reads delivers
  where
    given : OfFiles scene (under_table origin gives) (λ held. TableGives origin held (Ok table))
    given held told = came_told origin scene.library scene.requests (λ h. TableGives origin h (Ok table)) held told (obtained_table origin scene.library scene.requests table obtains)
plan_ending (of_tables old new gives) blame scene answer (outcome, (unread, inl (refusal, obtains, begun, is)), delivers) =
    untabled_ending (of_tables old new gives) old scene scene.library scene.requests answer refusal outcome tt (λ failed. failed) (first_refused old new gives scene refusal) obtains unread is delivers
plan_ending (of_tables old new gives) blame scene answer (outcome, (unread, inr (half, before, taken, rest)), delivers) =
    second_ending old new gives scene answer half before outcome taken unread rest delivers
plan_ending (under_both origin file gives) blame scene answer (outcome, inl (refusal, obtains, unread, is), delivers) =
    untabled_ending (under_both origin file gives) origin scene scene.library scene.requests answer refusal outcome tt (λ failed. failed) (table_refused origin file gives scene refusal) obtains unread is delivers
plan_ending (under_both origin file gives) blame scene answer (outcome, inr (half, table, taken, rest), delivers) = file_ending origin file gives blame scene answer half table outcome taken rest delivers

-- ---- all tasks

-- A call that asks for a task ends in one of these ways.
pub ending : (task : Task) (scene : Scene) (answer : ℕ) → Answers (Some task) scene answer → Ending (plan task) scene answer
ending task scene answer answers = plan_ending (plan task) (blames task) scene answer answers
