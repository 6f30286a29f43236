-- What follows from how a call ends.
use Rattle.std.proofs.Common.{◌≡◌, ◌≢◌, ◌⊎◌, inl, inr, ℕ, ◌+◌, ◌≤◌, List, [], ◌∷◌, ◌++◌, length, take, drop, Option, Some, None, Ok, Err, IfSome, refl, sym, ◌∙◌, ap, subst, arith}
use Rattle.std.proofs.lemmas.List.{take-append-drop}
use Rattle.std.proofs.Math.Seq.{drop-append_seam}
use Rattle.std.specs.Io.KnownBytes.{Appends, Consumes, IsAtEnd}
use Rattle.context_model.specs.Atoms.{Atom}
use Rattle.context_model.specs.Framing.{bytes_of}
use Rattle.context_model.specs.Merged.{IsMerged}
use Rattle.bag_model.specs.Shapes.{Nodes}
use Rattle.bag_model.specs.Tables.{IsTable}
use Rattle.bdl_load.specs.Loading.{Holding}
use Rattle.def_evolve.specs.Verdicts.{IsVerdict}
use Rattle.def_evolve.specs.declared.verdicts.Verdict.{Verdict}
use Rattle.bdl_check.specs.Compiler.{IsTableOf}
use Rattle.report_text.specs.Blocks.{IsBlock}
use Rattle.trace_model.specs.Graphs as model
use Rattle.trace_model.specs.Graphs.{IsRecorded}
use Rattle.trace_model.specs.Runs.{Lists, IsRun}
use Rattle.graph_report.specs.Reports.{IsReport}
use Rattle.report_json.specs.JsonReports.{IsJsonReport}
use Rattle.load_maker.specs.Loads.{load_table, load_text}
use Rattle.load_maker.proofs.LoadTable.{load_is_table}
use Rattle.graph_text.specs.Reading.{IsGraphOf}
use Rattle.text_lines.specs.declared.TheConstants.{INPUT_MAX}
use Rattle.text_lines.specs.HexLines.{hex_line}
use Rattle.text_lines.specs.Lines.{Line, lines_of}
use Rattle.text_lines.specs.Readings.{Reading, AllSay}
use Rattle.text_lines.proofs.ReadingLaws.{at_most-all_say, at_most-few}
use Rattle.text_carrier.specs.Carrying.{carried_text}
use Rattle.write_proof.specs.Verdicts.{IsVerdictOf}
use Rattle.write_proof.specs.declared.verdicts.Verified.{Verified}
use Rattle.bag_model.specs.Slots.{slots_of}
use Rattle.table_text.specs.TableTexts.{table_text}
use Rattle.baggage_cli.specs.Check.{ok_line}
use Rattle.baggage_cli.specs.Carry.{byte_lines, CarriesLines}
use Rattle.baggage_cli.specs.Collect.{CollectsLines}
use Rattle.command_line.specs.Commands.{Task, trim, merge, carry, collect, load, check, table as print_table, decode, run, run_json, run_table, evolve, why, verify}
use Rattle.baggage_cli.specs.Verify.{verified_line, IsVerified, VerifiesLines, TruthWhereYes}
use Rattle.baggage_cli.specs.Why.{IsExplainedAt, IsExplained, ExplainsLines}
use Rattle.baggage_cli.specs.Evolve.{verdict_line, IsVerdictLine, SafeWhereItFits}
use Rattle.baggage_cli.specs.declared.commands.merge.TheConstants.{LINES_MAX}
use Rattle.baggage_cli.specs.declared.refusals.InputCode.TheVariants.{TooLong, Form as Excess, TooManyLines}
use Rattle.baggage_cli.specs.declared.refusals.InputFault.{InputFault}
use Rattle.baggage_cli.specs.declared.refusals.InputFault.TheVariants.{Code, Hex, Graph, Piece, Missing, Bytes, IllTyped}
use Rattle.baggage_cli.specs.declared.refusals.Notice.TheVariants.{LibraryFailed, SourceFailed, Memory}
use Rattle.baggage_cli.specs.declared.refusals.Refusal.{Refusal}
use Rattle.baggage_cli.specs.declared.refusals.Refusal.TheVariants.{Input}
use Rattle.baggage_cli.specs.Laws.{GraphLaws, Laws}
use Rattle.baggage_cli.specs.Merge.{lists_of, widest, MergesLines}
use Rattle.baggage_cli.specs.Outcomes.{Outcome}
use Rattle.baggage_cli.specs.Decode.{DecodesLines, SaysTyped}
use Rattle.baggage_cli.specs.Plans.{Plan, of_nothing, of_input, of_table, under_table, of_tables, under_both, plan, PlanReads, PlanFetches, PlanGives, PlanRefuses}
use Rattle.baggage_cli.specs.Reading.{Framed, IsInputRead, Within, ReadsOne, cut_lines, context_lines, typed_lines}
use Rattle.baggage_cli.specs.Refusals.{status_of, input_status, input_line, refusal_line, notice_line}
use Rattle.baggage_cli.specs.Load.{load_heading, IsLoadOutput}
use Rattle.baggage_cli.specs.Run.{ReportForm, as_lines, as_json, IsReportAs, IsRunReport, RunsLines, SaysGraph, ShowsTruth}
use Rattle.baggage_cli.specs.Scene.{Change, Scene, scene_of, IsSame, IsSteady, HasFailed, TakesWhole, HasNoFault}
use Rattle.baggage_cli.specs.Tables.{Origin, compiled, printed, IsPrinted, TableGives}
use Rattle.baggage_cli.specs.Top.{ReadsSource, FetchesFiles, TellsFiles, TellsAll, InputGives, RefusesFiles, Comes, Answers, SaysList, SaysContexts, SaysBytes, SaysPieces, IsRefusedFor, FailsSink, IsFailure}
use Rattle.baggage_cli.specs.Top.IsRefusedFor.{by_files, by_input}
use Rattle.baggage_cli.specs.Trim.{trimmed_line, TrimsLines}
use Rattle.baggage_cli.proofs.GraphInputs.{said_graph, given_graph}
use Rattle.baggage_cli.proofs.Definite.{ok_no_err, refused_right, input_refused_one}
use Rattle.baggage_cli.proofs.Endings.{Ending, Gives, Made, AnswersBy, ending}
use Rattle.baggage_cli.proofs.Endings.Ending.{read_out, files_out, made_out, bad_input, bad_files, library_failed, source_failed, memory_wanting, sink_failed}
use Rattle.baggage_cli.proofs.ToldFiles.{AskedAll, FilesGive, refused_once, given_not_refused, no_table_given}

-- No status of an input is another's.
input_status_some : (fault : InputFault) (n : ℕ) → n ≡ input_status fault → (n ≡ 2) ⊎ (n ≡ 3)
input_status_some (Code code) n is = inl is
input_status_some (Hex code) n is = inl is
input_status_some (Graph code) n is = inl is
input_status_some (Piece code) n is = inl is
input_status_some (Missing piece) n is = inl is
input_status_some (Bytes offset code) n is = inr is
input_status_some (IllTyped offset) n is = inr is

not_input : (fault : InputFault) (answer : ℕ) → answer ≡ input_status fault → (answer ≡ 2 → ⊥) → (answer ≡ 3 → ⊥) → ⊥
not_input fault answer is not_two not_three = elim (input_status_some fault answer is) [ inl two ↦ not_two two | inr three ↦ not_three three ]

-- ---- what was read

-- The input is what the source says it holds.
told_input : (source : Change (List ℕ)) (told input : List ℕ) → source.before ≡ Some told → IsInputRead source input → told ≡ input
told_input source told input is read = subst (λ before. IfSome before (λ t. t ≡ input)) is read.held

behind_front : (n : ℕ) (bytes rest : List ℕ) → bytes ≡ take n bytes ++ rest → rest ≡ drop n bytes
behind_front n bytes rest split =
    sym (drop-append_seam (take n bytes) rest) ∙ ap (drop (length (take n bytes))) (sym split ∙ sym (take-append-drop n bytes)) ∙ drop-append_seam (take n bytes) (drop n bytes)

left_behind : (before after : Option (List ℕ)) (told : List ℕ) (n : ℕ) → before ≡ Some told → Consumes before after (take n told) → after ≡ Some (drop n told)
left_behind None after told n is taken = absurd (cc is)
left_behind (Some bytes) None told n is taken = absurd taken
left_behind (Some bytes) (Some rest) told n is taken =
    let same : bytes ≡ told = cc is in
    ap Some (behind_front n told rest (sym same ∙ taken))

-- A source that tells has left what follows an input.
pub read_left : (source : Change (List ℕ)) (told input : List ℕ) → source.before ≡ Some told → IsInputRead source input → source.after ≡ Some (drop (INPUT_MAX + 1) told)
read_left source told input is read =
    left_behind source.before source.after told (INPUT_MAX + 1) is (subst (λ i. Consumes source.before source.after (take (INPUT_MAX + 1) i)) (sym (told_input source told input is read)) read.taken)

-- ---- what the library says it holds

-- What an input gives, it gives with the files that the library says it holds.
told_gives : (way : Plan) (scene : Scene) (input : List ℕ) (outcome : Outcome) → (PlanFetches way → (held : Holding) × (scene.library.before ≡ Some held)) → Gives way scene input outcome
    → PlanGives way scene.library.before input outcome
told_gives (of_nothing made) scene input outcome tells gave = absurd gave
told_gives (of_input gives) scene input outcome tells gave = gave
told_gives (of_table origin text) scene input outcome tells gave = absurd gave
told_gives (under_table origin gives) scene input outcome tells (table, came, gave) =
    let held = tells tt in
    (held.0, held.1, table, (came held.0 held.1).0, gave)
told_gives (of_tables old new gives) scene input outcome tells gave = absurd gave
told_gives (under_both origin file gives) scene input outcome tells (table, certificate, came, gave) =
    let held = tells tt in
    let given = (came held.0 held.1).0 in
    (held.0, held.1, table, certificate, given.0, given.1, gave)

given_tells : (way : Plan) (files : Option Holding) (input : List ℕ) (outcome : Outcome) → PlanGives way files input outcome → PlanFetches way → (held : Holding) × (files ≡ Some held)
given_tells (of_nothing made) files input outcome gave = absurd gave
given_tells (of_input gives) files input outcome gave = λ fetches. absurd fetches
given_tells (of_table origin text) files input outcome gave = absurd gave
given_tells (under_table origin gives) files input outcome gave = λ fetches. (gave.0, gave.1)
given_tells (of_tables old new gives) files input outcome gave = absurd gave
given_tells (under_both origin file gives) files input outcome gave = λ fetches. (gave.0, gave.1)

-- Where an input gives something, the source is read.
given_reads : (way : Plan) (files : Option Holding) (input : List ℕ) (outcome : Outcome) → PlanGives way files input outcome → PlanReads way
given_reads (of_nothing made) files input outcome gave = gave
given_reads (of_input gives) files input outcome gave = tt
given_reads (of_table origin text) files input outcome gave = gave
given_reads (under_table origin gives) files input outcome gave = tt
given_reads (of_tables old new gives) files input outcome gave = gave
given_reads (under_both origin file gives) files input outcome gave = tt

-- Where files are refused, some are fetched.
refused_fetches : (way : Plan) (held : Holding) (refusal : Refusal) → PlanRefuses way held refusal → PlanFetches way
refused_fetches (of_nothing made) held refusal bad = bad
refused_fetches (of_input gives) held refusal bad = bad
refused_fetches (of_table origin text) held refusal bad = tt
refused_fetches (under_table origin gives) held refusal bad = tt
refused_fetches (of_tables old new gives) held refusal bad = tt
refused_fetches (under_both origin file gives) held refusal bad = tt

-- ---- status 0

-- With status 0 of a task that reads, an output was written that its input gives.
pub record ReadOut (way : Plan) (scene : Scene) : Type 0 where
  pub input : List ℕ
  pub output : List ℕ
  pub read : IsInputRead scene.source input
  pub gave : Gives way scene input (Ok output)
  pub out : TakesWhole scene.out output

pub read_done : (way : Plan) (scene : Scene) (answer : ℕ) → Ending way scene answer → PlanReads way → answer ≡ 0 → ReadOut way scene
read_done way scene answer (read_out input output zero reads read gave written) some is =
    record { input = input; output = output; read = read; gave = gave; out = written.0 }
read_done way scene answer (files_out output zero fetches none came unread written) some is = absurd (none some)
read_done way scene answer (made_out output zero none unfetched made unread written) some is = absurd (none some)
read_done way scene answer (bad_input input number fault status reads read gave said) some is = absurd (not_input fault answer status (λ two. omega arith) (λ three. omega arith))
read_done way scene answer (bad_files refusal one fetches came unread said) some is = absurd (omega arith)
read_done way scene answer (library_failed four fetches failed said) some is = absurd (omega arith)
read_done way scene answer (source_failed four reads failed said) some is = absurd (omega arith)
read_done way scene answer (memory_wanting six said) some is = absurd (omega arith)
read_done way scene answer (sink_failed five failed) some is = absurd (omega arith)

-- What one line of an input gave is what the line says.
one_said : {A : Type 0} (reading : Reading A InputFault) (gives : A → List ℕ → Type 0) (input output : List ℕ) → Within (ReadsOne reading gives) input (Ok output)
    → (a : A) × ((length input ≤ INPUT_MAX) × AllSay reading [] (lines_of input) (a ∷ [])) × gives a output
one_said reading gives input output (inl long) = absurd (ok_no_err output _ long.1)
one_said reading gives input output (inr (short, inl none)) = absurd (ok_no_err output _ none.1)
one_said reading gives input output (inr (short, inr (said, all, (a, is, gave)))) =
    (a, (short, subst (AllSay reading [] (lines_of input)) is (at_most-all_say 1 (Code Excess) reading [] (lines_of input) said all)), gave)

-- Where the answer is 0, the one line of the input says a list, and the line of the trimmed list was written.
pub trim_appends : (budget : ℕ) (input : List ℕ) (scene : Scene) (answer : ℕ) → Answers (Some (trim budget)) scene answer → scene.source.before ≡ Some input → answer ≡ 0
    → (said : Framed) × SaysList budget input said × Appends scene.out.before scene.out.after (trimmed_line budget said)
trim_appends budget input scene answer answers told zero =
    let done = read_done (plan (trim budget)) scene answer (ending (trim budget) scene answer answers) tt zero in
    let same = told_input scene.source input done.input told done.read in
    let (said, says, is) = one_said (cut_lines budget) (λ s output. output ≡ trimmed_line budget s) input done.output (subst (λ i. Within (TrimsLines budget) i (Ok done.output)) (sym same) done.gave) in
    (said, says, subst (Appends scene.out.before scene.out.after) is done.out.0)

-- The lines of an input that were merged say contexts.
contexts_merged : (input output : List ℕ) → Within MergesLines input (Ok output)
    → (said : List Framed) × (merged : List Atom) × SaysContexts input said × IsMerged (lists_of said) merged × (output ≡ hex_line (bytes_of (widest said) merged))
contexts_merged input output (inl long) = absurd (ok_no_err output _ long.1)
contexts_merged input output (inr (short, (said, all, (merged, merges, is)))) =
    (said, merged, (short, at_most-all_say LINES_MAX (Code TooManyLines) context_lines [] (lines_of input) said all, at_most-few LINES_MAX (Code TooManyLines) context_lines (lines_of input) said all), merges, is)

-- Where the answer is 0, the lines of the input say contexts, and the line of their merge was written.
pub merge_appends : (input : List ℕ) (scene : Scene) (answer : ℕ) → Answers (Some merge) scene answer → scene.source.before ≡ Some input → answer ≡ 0
    → (said : List Framed) × (merged : List Atom) × SaysContexts input said × IsMerged (lists_of said) merged
    × Appends scene.out.before scene.out.after (hex_line (bytes_of (widest said) merged))
merge_appends input scene answer answers told zero =
    let done = read_done (plan merge) scene answer (ending merge scene answer answers) tt zero in
    let same = told_input scene.source input done.input told done.read in
    let (said, merged, says, merges, is) = contexts_merged input done.output (subst (λ i. Within MergesLines i (Ok done.output)) (sym same) done.gave) in
    (said, merged, says, merges, subst (Appends scene.out.before scene.out.after) is done.out.0)

-- Where the answer is 0, the one line of the input says the bytes of a context, and the lines of their pieces were written.
pub carry_appends : (width : ℕ) (input : List ℕ) (scene : Scene) (answer : ℕ) → Answers (Some (carry width)) scene answer → scene.source.before ≡ Some input → answer ≡ 0
    → (bytes : List ℕ) × SaysBytes input bytes × Appends scene.out.before scene.out.after (carried_text width bytes)
carry_appends width input scene answer answers told zero =
    let done = read_done (plan (carry width)) scene answer (ending (carry width) scene answer answers) tt zero in
    let same = told_input scene.source input done.input told done.read in
    let (bytes, says, is) = one_said byte_lines (λ b output. output ≡ carried_text width b) input done.output (subst (λ i. Within (CarriesLines width) i (Ok done.output)) (sym same) done.gave) in
    (bytes, says, subst (Appends scene.out.before scene.out.after) is done.out.0)

-- What lines of pieces gave are the bytes that they say.
bytes_collected : (input output : List ℕ) → Within CollectsLines input (Ok output) → (bytes : List ℕ) × SaysPieces input bytes × (output ≡ hex_line bytes)
bytes_collected input output (inl long) = absurd (ok_no_err output _ long.1)
bytes_collected input output (inr (short, (bytes, says, of, is))) = (bytes, (short, says, of), is)

-- Where the answer is 0, the lines of the input say all pieces of the bytes of a context, and their line was written.
pub collect_appends : (input : List ℕ) (scene : Scene) (answer : ℕ) → Answers (Some collect) scene answer → scene.source.before ≡ Some input → answer ≡ 0
    → (bytes : List ℕ) × SaysPieces input bytes × Appends scene.out.before scene.out.after (hex_line bytes)
collect_appends input scene answer answers told zero =
    let done = read_done (plan collect) scene answer (ending collect scene answer answers) tt zero in
    let same = told_input scene.source input done.input told done.read in
    let (bytes, says, is) = bytes_collected input done.output (subst (λ i. Within CollectsLines i (Ok done.output)) (sym same) done.gave) in
    (bytes, says, subst (Appends scene.out.before scene.out.after) is done.out.0)

-- Where the answer is 0, the input gave what was written, under a table that these files give.
record GaveUnder (origin : Origin) (gives : Nodes → List Line → Outcome → Type 0) (held : Holding) (input : List ℕ) (scene : Scene) : Type 0 where
  table : Nodes
  output : List ℕ
  is : TableGives origin held (Ok table)
  gave : Within (gives table) input (Ok output)
  written : Appends scene.out.before scene.out.after output

gave_under : (origin : Origin) (gives : Nodes → List Line → Outcome → Type 0) (held : Holding) (input : List ℕ) (scene : Scene) (answer : ℕ) → Ending (under_table origin gives) scene answer
    → scene.library.before ≡ Some held → scene.source.before ≡ Some input → answer ≡ 0 → GaveUnder origin gives held input scene
gave_under origin gives held input scene answer ended told content zero =
    let done = read_done (under_table origin gives) scene answer ended tt zero in
    record {
      table = done.gave.0;
      output = done.output;
      is = (done.gave.1 held told).0;
      gave = subst (λ i. Within (gives done.gave.0) i (Ok done.output)) (sym (told_input scene.source input done.input content done.read)) done.gave.2;
      written = done.out.0;
    }

-- Where the answer is 0, the one line of the input says a context that is typed under the table, and the block of the context was written.
pub decode_appends : (file bag : List ℕ) (held : Holding) (input : List ℕ) (scene : Scene) (answer : ℕ) → Answers (Some (decode file bag)) scene answer
    → scene.library.before ≡ Some held → scene.source.before ≡ Some input → answer ≡ 0
    → (table : Nodes) × (said : Framed) × (text : List ℕ) × IsTableOf held file bag table × SaysTyped table input said × IsBlock table said.0 said.1 text
    × Appends scene.out.before scene.out.after text
decode_appends file bag held input scene answer answers told content zero =
    let done = gave_under (compiled file bag) DecodesLines held input scene answer (ending (decode file bag) scene answer answers) told content zero in
    let (said, says, block) = one_said (typed_lines done.table) (λ s. IsBlock done.table s.0 s.1) input done.output done.gave in
    (done.table, said, done.output, done.is, says, block, done.written)

-- What is shown of a run is honest.
shows_truth : GraphLaws → (table : Nodes) (graph : model.Graph) (lists : Lists) → IsRecorded table graph → IsRun table graph lists → ShowsTruth table graph lists
shows_truth laws table graph lists recorded ran = λ n slot exact v among shown.
    laws.honest table graph lists n slot exact v (record { recorded = recorded; run = ran; within = recorded.sound.shows n among }) shown

-- Where the answer is 0, the report of the run of the graph that the input says was written.
abbrev pub RanUnder : ReportForm → Origin → Holding → List ℕ → Scene → Type 0
RanUnder form origin held input scene =
    (table : Nodes) × (graph : model.Graph) × (lists : Lists) × (output : List ℕ) × TableGives origin held (Ok table) × SaysGraph table input graph
    × IsRun table graph lists × IsReportAs form table graph lists output × ShowsTruth table graph lists × Appends scene.out.before scene.out.after output

ran_under : Laws → (form : ReportForm) (origin : Origin) (held : Holding) (input : List ℕ) (scene : Scene) (answer : ℕ) → Ending (under_table origin (RunsLines form)) scene answer
    → scene.library.before ≡ Some held → scene.source.before ≡ Some input → answer ≡ 0 → RanUnder form origin held input scene
ran_under laws form origin held input scene answer ended told content zero =
    let done = gave_under origin (RunsLines form) held input scene answer ended told content zero in
    let table = done.table in
    let ran = given_graph (IsRunReport form table) table input done.output done.gave in
    let lists = ran.2.0 in
    let recorded = laws.graphs.recorded table input ran.0 (laws.tables.is_table origin held table done.is) ran.1.1 in
    (table, ran.0, lists, done.output, done.is, ran.1, ran.2.1, ran.2.2, shows_truth laws.graphs table ran.0 lists recorded ran.2.1, done.written)

pub run_appends : Laws → (file bag : List ℕ) (held : Holding) (input : List ℕ) (scene : Scene) (answer : ℕ) → Answers (Some (run file bag)) scene answer
    → scene.library.before ≡ Some held → scene.source.before ≡ Some input → answer ≡ 0 → RanUnder as_lines (compiled file bag) held input scene
run_appends laws file bag held input scene answer answers told content zero =
    ran_under laws as_lines (compiled file bag) held input scene answer (ending (run file bag) scene answer answers) told content zero

pub run_table_appends : Laws → (file : List ℕ) (held : Holding) (input : List ℕ) (scene : Scene) (answer : ℕ) → Answers (Some (run_table file)) scene answer
    → scene.library.before ≡ Some held → scene.source.before ≡ Some input → answer ≡ 0 → RanUnder as_lines (printed file) held input scene
run_table_appends laws file held input scene answer answers told content zero =
    ran_under laws as_lines (printed file) held input scene answer (ending (run_table file) scene answer answers) told content zero

-- The same as JSON: the line feed is the last byte.
pub run_json_appends : Laws → (file bag : List ℕ) (held : Holding) (input : List ℕ) (scene : Scene) (answer : ℕ) → Answers (Some (run_json file bag)) scene answer
    → scene.library.before ≡ Some held → scene.source.before ≡ Some input → answer ≡ 0
    → (table : Nodes) × (graph : model.Graph) × (lists : Lists) × (text : List ℕ) × IsTableOf held file bag table × SaysGraph table input graph
    × IsRun table graph lists × IsJsonReport table graph lists text × ShowsTruth table graph lists × Appends scene.out.before scene.out.after (text ++ 10 ∷ [])
run_json_appends laws file bag held input scene answer answers told content zero =
    let (table, graph, lists, output, is, says, ran, (text, report, output_is), truth, written) =
    ran_under laws as_json (compiled file bag) held input scene answer (ending (run_json file bag) scene answer answers) told content zero in
    (table, graph, lists, text, is, says, ran, report, truth, subst (Appends scene.out.before scene.out.after) output_is written)

-- What lines that have a certificate say.
explained_graph : (step : ℕ) (path : List ℕ) (table : Nodes) (input output : List ℕ) → Within (ExplainsLines step path table) input (Ok output)
    → (graph : model.Graph) × SaysGraph table input graph × IsExplained step path table graph output
explained_graph step path table input output (inl long) = absurd (ok_no_err output _ long.1)
explained_graph step path table input output (inr (short, inl gave)) =
    let (graph, says, explained) = said_graph (IsExplained step path table) table input output gave in
    (graph, (short, says), explained)
explained_graph step path table input output (inr (short, inr (every, left, all, reason, is))) = absurd (ok_no_err output _ is)

-- Where the answer is 0, the certificate of the slot at the step was written.
pub why_appends : (file bag path : List ℕ) (step : ℕ) (held : Holding) (input : List ℕ) (scene : Scene) (answer : ℕ) → Answers (Some (why file bag step path)) scene answer
    → scene.library.before ≡ Some held → scene.source.before ≡ Some input → answer ≡ 0
    → (table : Nodes) × (graph : model.Graph) × (lists : Lists) × (slot : ℕ) × (text : List ℕ) × IsTableOf held file bag table × SaysGraph table input graph
    × IsExplainedAt table graph lists step path slot text × Appends scene.out.before scene.out.after text
why_appends file bag path step held input scene answer answers told content zero =
    let done = gave_under (compiled file bag) (ExplainsLines step path) held input scene answer (ending (why file bag step path) scene answer answers) told content zero in
    let (graph, says, (lists, slot, explained)) = explained_graph step path done.table input done.output done.gave in
    (done.table, graph, lists, slot, done.output, done.is, says, explained, done.written)

-- Where the answer is 0, the verdict on the certificate was written.
pub verify_appends : Laws → (file bag name : List ℕ) (held : Holding) (input : List ℕ) (scene : Scene) (answer : ℕ) → Answers (Some (verify file bag name)) scene answer
    → scene.library.before ≡ Some held → scene.source.before ≡ Some input → answer ≡ 0
    → (table : Nodes) × (graph : model.Graph) × (certificate : List ℕ) × (verdict : Verified) × IsTableOf held file bag table × (held name ≡ Some certificate) × SaysGraph table input graph
    × IsVerdictOf table graph certificate verdict × TruthWhereYes table graph certificate verdict × Appends scene.out.before scene.out.after (verified_line verdict)
verify_appends laws file bag name held input scene answer answers told content zero =
    let done = read_done (plan (verify file bag name)) scene answer (ending (verify file bag name) scene answer answers) tt zero in
    let (table, certificate, came, gave) = done.gave in
    let (is, text) = (came held told).0 in
    let here = subst (λ i. Within (VerifiesLines table certificate) i (Ok done.output)) (sym (told_input scene.source input done.input content done.read)) gave in
    let (graph, says, (verdict, right, line)) = given_graph (IsVerified table certificate) table input done.output here in
    let recorded = laws.graphs.recorded table input graph (laws.tables.is_table (compiled file bag) held table is) says.1 in
    let truth : TruthWhereYes table graph certificate verdict = (λ yes. laws.certificates.truth table graph certificate recorded (subst (IsVerdictOf table graph certificate) yes right)) in
    (table, graph, certificate, verdict, is, text.0, says, right, truth, subst (Appends scene.out.before scene.out.after) line done.out.0)

-- ---- loads

made_written : (made : List ℕ → Type 0) (scene : Scene) (answer : ℕ) → Ending (of_nothing made) scene answer → answer ≡ 0
    → (output : List ℕ) × made output × Appends scene.out.before scene.out.after output
made_written made scene answer (read_out input output zero reads read gave written) is = absurd reads
made_written made scene answer (files_out output zero fetches none came unread written) is = absurd fetches
made_written made scene answer (made_out output zero none unfetched holds unread written) is = (output, holds, written.0.0)
made_written made scene answer (bad_input input number fault status reads read gave said) is = absurd reads
made_written made scene answer (bad_files refusal one fetches came unread said) is = absurd (omega arith)
made_written made scene answer (library_failed four fetches failed said) is = absurd (omega arith)
made_written made scene answer (source_failed four reads failed said) is = absurd (omega arith)
made_written made scene answer (memory_wanting six said) is = absurd (omega arith)
made_written made scene answer (sink_failed five failed) is = absurd (omega arith)

-- Where the answer is 0, the heading of the load and the report of its graph's run were written.
pub load_appends : Laws → (rounds : ℕ) (scene : Scene) (answer : ℕ) → Answers (Some (load rounds)) scene answer → answer ≡ 0
    → (graph : model.Graph) × (lists : Lists) × (text : List ℕ) × IsGraphOf load_table (load_text rounds) graph
    × IsRun load_table graph lists × IsReport load_table graph lists text × ShowsTruth load_table graph lists
    × Appends scene.out.before scene.out.after (load_heading rounds ++ text)
load_appends laws rounds scene answer answers zero =
    let (output, (graph, text, says, (lists, ran, report), is), written) = made_written (IsLoadOutput rounds) scene answer (ending (load rounds) scene answer answers) zero in
    let recorded = laws.graphs.recorded load_table (load_text rounds) graph load_is_table says in
    (graph, lists, text, says, ran, report, shows_truth laws.graphs load_table graph lists recorded ran, subst (Appends scene.out.before scene.out.after) is written)

-- ---- tables

-- With status 0 of a task that reads nothing, what its files give was written.
files_written : (way : Plan) (held : Holding) (scene : Scene) (answer : ℕ) → Ending way scene answer → PlanFetches way → (PlanReads way → ⊥) → scene.library.before ≡ Some held → answer ≡ 0
    → (output : List ℕ) × FilesGive way held output × Appends scene.out.before scene.out.after output
files_written way held scene answer (read_out input output zero reads read gave written) fetching unasked told is = absurd (unasked reads)
files_written way held scene answer (files_out output zero fetches none came unread written) fetching unasked told is = (output, (came held told).0, written.0.0)
files_written way held scene answer (made_out output zero none unfetched made unread written) fetching unasked told is = absurd (unfetched fetching)
files_written way held scene answer (bad_input input number fault status reads read gave said) fetching unasked told is = absurd (unasked reads)
files_written way held scene answer (bad_files refusal one fetches came unread said) fetching unasked told is = absurd (omega arith)
files_written way held scene answer (library_failed four fetches failed said) fetching unasked told is = absurd (omega arith)
files_written way held scene answer (source_failed four reads failed said) fetching unasked told is = absurd (omega arith)
files_written way held scene answer (memory_wanting six said) fetching unasked told is = absurd (omega arith)
files_written way held scene answer (sink_failed five failed) fetching unasked told is = absurd (omega arith)

-- Where the answer is 0, what is made of the table was written.
built_of : (origin : Origin) (text : Nodes → List ℕ) (held : Holding) (scene : Scene) (answer : ℕ) → Ending (of_table origin text) scene answer → scene.library.before ≡ Some held → answer ≡ 0
    → (table : Nodes) × TableGives origin held (Ok table) × Appends scene.out.before scene.out.after (text table)
built_of origin text held scene answer ended told zero =
    let (output, (table, gave, is), written) = files_written (of_table origin text) held scene answer ended tt (λ reads. reads) told zero in
    (table, gave, subst (Appends scene.out.before scene.out.after) is written)

pub check_appends : (file bag : List ℕ) (held : Holding) (scene : Scene) (answer : ℕ) → Answers (Some (check file bag)) scene answer → scene.library.before ≡ Some held → answer ≡ 0
    → (table : Nodes) × IsTableOf held file bag table × Appends scene.out.before scene.out.after (ok_line (length (slots_of table)))
check_appends file bag held scene answer answers told zero =
    built_of (compiled file bag) (λ table. ok_line (length (slots_of table))) held scene answer (ending (check file bag) scene answer answers) told zero

pub table_appends : (file bag : List ℕ) (held : Holding) (scene : Scene) (answer : ℕ) → Answers (Some (print_table file bag)) scene answer → scene.library.before ≡ Some held → answer ≡ 0
    → (table : Nodes) × IsTableOf held file bag table × Appends scene.out.before scene.out.after (table_text table)
table_appends file bag held scene answer answers told zero =
    built_of (compiled file bag) table_text held scene answer (ending (print_table file bag) scene answer answers) told zero

-- Contexts of a table are safe under one that fits.
safe_where_it_fits : Laws → (old new : Nodes) (verdict : Verdict) → IsTable old → IsTable new → IsVerdict old new verdict → SafeWhereItFits old new verdict
safe_where_it_fits laws old new verdict is also right = λ common fits. laws.fitting_is_safe old new is also (subst (IsVerdict old new) fits right).0

-- Where the answer is 0, the verdict on two tables was written.
pub evolve_appends : Laws → (old new bag : List ℕ) (held : Holding) (scene : Scene) (answer : ℕ) → Answers (Some (evolve old new bag)) scene answer → scene.library.before ≡ Some held → answer ≡ 0
    → (before : Nodes) × (after : Nodes) × (verdict : Verdict) × IsTableOf held old bag before × IsTableOf held new bag after
    × IsVerdict before after verdict × SafeWhereItFits before after verdict × Appends scene.out.before scene.out.after (verdict_line verdict)
evolve_appends laws old new bag held scene answer answers told zero =
    let (output, (before, after, (is, also), (verdict, right, line)), written) = files_written (plan (evolve old new bag)) held scene answer (ending (evolve old new bag) scene answer answers) tt (λ reads. reads) told zero in
    let safe = safe_where_it_fits laws before after verdict (laws.tables.is_table (compiled old bag) held before is) (laws.tables.is_table (compiled new bag) held after also) right in
    (before, after, verdict, is, also, right, safe, subst (Appends scene.out.before scene.out.after) line written)

-- A task that fetches asked for all files that it needs, in order, and for no others.
pub has_asked : (task : Task) (held : Holding) (scene : Scene) (answer : ℕ) → Answers (Some task) scene answer → FetchesFiles task → scene.library.before ≡ Some held → answer ≤ 3
    → AskedAll held (plan task) scene
has_asked task held scene answer answers fetching told few = by (ending task scene answer answers)
  where
    asked_given : (way : Plan) (input : List ℕ) (outcome : Outcome) → PlanFetches way → Gives way scene input outcome → AskedAll held way scene
    asked_given (of_nothing made) input outcome own gave = absurd own
    asked_given (of_input gives) input outcome own gave = absurd own
    asked_given (of_table origin text) input outcome own gave = absurd gave
    asked_given (under_table origin gives) input outcome own (table, came, gave) = (came held told).1
    asked_given (of_tables old new gives) input outcome own gave = absurd gave
    asked_given (under_both origin file gives) input outcome own (table, certificate, came, gave) = (came held told).1

    by : Ending (plan task) scene answer → AskedAll held (plan task) scene
    by (read_out input output zero reads read gave written) = asked_given (plan task) input (Ok output) fetching gave
    by (files_out output zero fetches none came unread written) = (came held told).1
    by (made_out output zero none unfetched made unread written) = absurd (unfetched fetching)
    by (bad_input input number fault status reads read gave said) = asked_given (plan task) input (Err (Input number fault)) fetching gave
    by (bad_files refusal one fetches came unread said) = (came held told).1
    by (library_failed four fetches failed said) = absurd (omega arith)
    by (source_failed four reads failed said) = absurd (omega arith)
    by (memory_wanting six said) = absurd (omega arith)
    by (sink_failed five failed) = absurd (omega arith)

-- What is wrong with where tables come from was reported to the errors.
abbrev pub TellsFault : Holding → Task → Scene → Type 0
TellsFault held task scene = (refusal : Refusal) × RefusesFiles task held refusal
    × Appends scene.errs.before scene.errs.after (refusal_line refusal)

-- The answer 1 comes only for that.
pub fault_told : (task : Task) (held : Holding) (scene : Scene) (answer : ℕ) → Answers (Some task) scene answer → scene.library.before ≡ Some held → answer ≡ 1 → TellsFault held task scene
fault_told task held scene answer answers told is = by (ending task scene answer answers)
  where
    by : Ending (plan task) scene answer → TellsFault held task scene
    by (read_out input output zero reads read gave written) = absurd (omega arith)
    by (files_out output zero fetches none came unread written) = absurd (omega arith)
    by (made_out output zero none unfetched made unread written) = absurd (omega arith)
    by (bad_input input number fault status reads read gave said) = absurd (not_input fault answer status (λ two. omega arith) (λ three. omega arith))
    by (bad_files refusal one fetches came unread said) = (refusal, (came held told).0, said.1.0)
    by (library_failed four fetches failed said) = absurd (omega arith)
    by (source_failed four reads failed said) = absurd (omega arith)
    by (memory_wanting six said) = absurd (omega arith)
    by (sink_failed five failed) = absurd (omega arith)

-- Where files are refused, the call is refused for it, unless the world outside or memory failed.
pub refusal_told : Laws → (task : Task) (held : Holding) (refusal : Refusal) (scene : Scene) (answer : ℕ) → Answers (Some task) scene answer
    → scene.library.before ≡ Some held → RefusesFiles task held refusal
    → ((answer ≡ 1) × Appends scene.errs.before scene.errs.after (refusal_line refusal)) ⊎ IsFailure answer
refusal_told laws task held refusal scene answer answers told bad = by (ending task scene answer answers)
  where
    -- The task gave nothing of an input.
    not_given : (input : List ℕ) (outcome : Outcome) → Gives (plan task) scene input outcome → ⊥
    not_given input outcome gave =
        no_table_given laws (plan task) held refusal scene.library.before input outcome told bad (told_gives (plan task) scene input outcome (λ fetches. (held, told)) gave)

    by : Ending (plan task) scene answer → ((answer ≡ 1) × Appends scene.errs.before scene.errs.after (refusal_line refusal)) ⊎ IsFailure answer
    by (read_out input output zero reads read gave written) = absurd (not_given input (Ok output) gave)
    by (files_out output zero fetches none came unread written) = absurd (given_not_refused laws (plan task) held output refusal (came held told).0 bad)
    by (made_out output zero none unfetched made unread written) = absurd (unfetched (refused_fetches (plan task) held refusal bad))
    by (bad_input input number other status reads read gave said) = absurd (not_given input (Err (Input number other)) gave)
    by (bad_files other one fetches came unread said) =
        inl (one, subst (λ r. Appends scene.errs.before scene.errs.after (refusal_line r)) (refused_once laws (plan task) held other refusal (came held told).0 bad) said.1.0)
    by (library_failed four fetches failed said) = inr (inl four)
    by (source_failed four reads failed said) = inr (inl four)
    by (memory_wanting six said) = inr (inr (inr six))
    by (sink_failed five failed) = inr (inr (inl five))

-- ---- inputs

-- What is wrong with an input, which was reported to the errors.
abbrev pub TellsInput : Task → List ℕ → Scene → ℕ → Type 0
TellsInput task input scene answer =
    (number : ℕ) × (fault : InputFault) × (answer ≡ input_status fault) × InputGives task scene.library.before input (Err (Input number fault))
    × Appends scene.errs.before scene.errs.after (input_line number fault)

-- The answers 2 and 3 come only for what is wrong with the input.
pub input_told : (task : Task) (input : List ℕ) (scene : Scene) (answer : ℕ) → Answers (Some task) scene answer → TellsFiles task scene.library.before → scene.source.before ≡ Some input
    → (answer ≡ 2) ⊎ (answer ≡ 3) → TellsInput task input scene answer
input_told task input scene answer answers tells told ended = by (ending task scene answer answers)
  where
    neither : (answer ≡ 2 → ⊥) → (answer ≡ 3 → ⊥) → ⊥
    neither not_two not_three = elim ended [ inl two ↦ not_two two | inr three ↦ not_three three ]

    by : Ending (plan task) scene answer → TellsInput task input scene answer
    by (read_out bytes output zero reads read gave written) = absurd (neither (λ two. omega arith) (λ three. omega arith))
    by (files_out output zero fetches none came unread written) = absurd (neither (λ two. omega arith) (λ three. omega arith))
    by (made_out output zero none unfetched made unread written) = absurd (neither (λ two. omega arith) (λ three. omega arith))
    by (bad_input bytes number fault status reads read gave said) =
        let given = told_gives (plan task) scene bytes (Err (Input number fault)) tells gave in
        (number, fault, status, subst (λ i. InputGives task scene.library.before i (Err (Input number fault))) (sym (told_input scene.source input bytes told read)) given, said.1.0)
    by (bad_files refusal one fetches came unread said) = absurd (neither (λ two. omega arith) (λ three. omega arith))
    by (library_failed four fetches failed said) = absurd (neither (λ two. omega arith) (λ three. omega arith))
    by (source_failed four reads failed said) = absurd (neither (λ two. omega arith) (λ three. omega arith))
    by (memory_wanting six said) = absurd (neither (λ two. omega arith) (λ three. omega arith))
    by (sink_failed five failed) = absurd (neither (λ two. omega arith) (λ three. omega arith))

input_same : (m n : ℕ) (f g : InputFault) → ◌≡◌ {A = Outcome} (Err (Input m f)) (Err (Input n g)) → (m ≡ n) × (f ≡ g)
input_same m n f g e = (cc e, cc e)

-- An input with something wrong is refused for it, unless the world outside or memory failed.
pub bad_told : Laws → (task : Task) (input : List ℕ) (number : ℕ) (fault : InputFault) (scene : Scene) (answer : ℕ) → Answers (Some task) scene answer → scene.source.before ≡ Some input
    → InputGives task scene.library.before input (Err (Input number fault))
    → ((answer ≡ input_status fault) × Appends scene.errs.before scene.errs.after (input_line number fault)) ⊎ IsFailure answer
bad_told laws task input number fault scene answer answers told bad = by (ending task scene answer answers)
  where
    -- Whatever the task gave of its input is that.
    gave_same : (bytes : List ℕ) (outcome : Outcome) → IsInputRead scene.source bytes → Gives (plan task) scene bytes outcome → outcome ≡ Err (Input number fault)
    gave_same bytes outcome read gave =
        let given = told_gives (plan task) scene bytes outcome (given_tells (plan task) scene.library.before input (Err (Input number fault)) bad) gave in
        let same = told_input scene.source input bytes told read in
        input_refused_one laws task scene.library.before bytes outcome (Err (Input number fault)) (refused_right outcome (Input number fault)) given (subst (λ i. InputGives task scene.library.before i (Err (Input number fault))) same bad)

    by : Ending (plan task) scene answer → ((answer ≡ input_status fault) × Appends scene.errs.before scene.errs.after (input_line number fault)) ⊎ IsFailure answer
    by (read_out bytes output zero reads read gave written) = absurd (ok_no_err output (Input number fault) (gave_same bytes (Ok output) read gave))
    by (files_out output zero fetches none came unread written) = absurd (none (given_reads (plan task) scene.library.before input (Err (Input number fault)) bad))
    by (made_out output zero none unfetched made unread written) = absurd (none (given_reads (plan task) scene.library.before input (Err (Input number fault)) bad))
    by (bad_input bytes line other status reads read gave said) =
        let same = input_same line number other fault (gave_same bytes (Err (Input line other)) read gave) in
        inl (status ∙ ap input_status same.1, subst (λ n. Appends scene.errs.before scene.errs.after (input_line n fault)) same.0 (subst (λ f. Appends scene.errs.before scene.errs.after (input_line line f)) same.1 said.1.0))
    by (bad_files refusal one fetches came unread said) =
        let held = given_tells (plan task) scene.library.before input (Err (Input number fault)) bad fetches in
        absurd (no_table_given laws (plan task) held.0 refusal scene.library.before input (Err (Input number fault)) held.1 (came held.0 held.1).0 bad)
    by (library_failed four fetches failed said) = inr (inl four)
    by (source_failed four reads failed said) = inr (inl four)
    by (memory_wanting six said) = inr (inr (inr six))
    by (sink_failed five failed) = inr (inr (inl five))

-- A source that tells, read by a task that ended with 0, 2 or 3, has left what follows its input.
pub left_told : (task : Task) (input : List ℕ) (scene : Scene) (answer : ℕ) → Answers (Some task) scene answer → ReadsSource task → scene.source.before ≡ Some input
    → (answer ≡ 0) ⊎ (answer ≡ 2) ⊎ (answer ≡ 3) → scene.source.after ≡ Some (drop (INPUT_MAX + 1) input)
left_told task input scene answer answers reading told ended = by (ending task scene answer answers)
  where
    never : (answer ≡ 0 → ⊥) → (answer ≡ 2 → ⊥) → (answer ≡ 3 → ⊥) → ⊥
    never not_zero not_two not_three = elim ended [ inl zero ↦ not_zero zero | inr bad ↦ elim bad [ inl two ↦ not_two two | inr three ↦ not_three three ] ]

    by : Ending (plan task) scene answer → scene.source.after ≡ Some (drop (INPUT_MAX + 1) input)
    by (read_out bytes output zero reads read gave written) = read_left scene.source input bytes told read
    by (files_out output zero fetches none came unread written) = absurd (none reading)
    by (made_out output zero none unfetched made unread written) = absurd (none reading)
    by (bad_input bytes number fault status reads read gave said) = read_left scene.source input bytes told read
    by (bad_files refusal one fetches came unread said) = absurd (never (λ zero. omega arith) (λ two. omega arith) (λ three. omega arith))
    by (library_failed four fetches failed said) = absurd (never (λ zero. omega arith) (λ two. omega arith) (λ three. omega arith))
    by (source_failed four reads failed said) = absurd (never (λ zero. omega arith) (λ two. omega arith) (λ three. omega arith))
    by (memory_wanting six said) = absurd (never (λ zero. omega arith) (λ two. omega arith) (λ three. omega arith))
    by (sink_failed five failed) = absurd (never (λ zero. omega arith) (λ two. omega arith) (λ three. omega arith))

within_short : (gives : List Line → Outcome → Type 0) (input output : List ℕ) → Within gives input (Ok output) → length input ≤ INPUT_MAX
within_short gives input output (inl long) = absurd (ok_no_err output (Input 0 (Code TooLong)) long.1)
within_short gives input output (inr (short, gave)) = short

short_given : (way : Plan) (scene : Scene) (input output : List ℕ) → Gives way scene input (Ok output) → length input ≤ INPUT_MAX
short_given (of_nothing made) scene input output gave = absurd gave
short_given (of_input gives) scene input output gave = within_short gives input output gave
short_given (of_table origin text) scene input output gave = absurd gave
short_given (under_table origin gives) scene input output (table, came, gave) = within_short (gives table) input output gave
short_given (of_tables old new gives) scene input output gave = absurd gave
short_given (under_both origin file gives) scene input output (table, certificate, came, gave) = within_short (gives table certificate) input output gave

-- After an output nothing is left of a source that was read.
pub ended_source : (task : Task) (scene : Scene) (answer : ℕ) → Answers (Some task) scene answer → ReadsSource task → answer ≡ 0 → IsAtEnd scene.source.after
ended_source task scene answer answers reads is =
    let done = read_done (plan task) scene answer (ending task scene answer answers) reads is in
    done.read.ended (short_given (plan task) scene done.input done.output done.gave)

-- ---- counts and the other statuses

-- With status 0 no count of the sinks rose, and nothing was said.
pub steady_done : (task : Task) (scene : Scene) (answer : ℕ) → Answers (Some task) scene answer → answer ≡ 0 → IsSteady scene.out × IsSame scene.errs
steady_done task scene answer answers is = by (ending task scene answer answers)
  where
    by : Ending (plan task) scene answer → IsSteady scene.out × IsSame scene.errs
    by (read_out input output zero reads read gave written) = (written.0.1, written.1)
    by (files_out output zero fetches none came unread written) = (written.0.1, written.1)
    by (made_out output zero none unfetched made unread written) = (written.0.1, written.1)
    by (bad_input input number fault status reads read gave said) = absurd (not_input fault answer status (λ two. omega arith) (λ three. omega arith))
    by (bad_files refusal one fetches came unread said) = absurd (omega arith)
    by (library_failed four fetches failed said) = absurd (omega arith)
    by (source_failed four reads failed said) = absurd (omega arith)
    by (memory_wanting six said) = absurd (omega arith)
    by (sink_failed five failed) = absurd (omega arith)

-- With a status up to 3 the source counted no fault.
pub source_steady_task : (task : Task) (scene : Scene) (answer : ℕ) → Answers (Some task) scene answer → answer ≤ 3 → IsSteady scene.source
source_steady_task task scene answer answers low = by (ending task scene answer answers)
  where
    by : Ending (plan task) scene answer → IsSteady scene.source
    by (read_out input output zero reads read gave written) = read.steady
    by (files_out output zero fetches none came unread written) = unread.1
    by (made_out output zero none unfetched made unread written) = unread.1
    by (bad_input input number fault status reads read gave said) = read.steady
    by (bad_files refusal one fetches came unread said) = unread.1
    by (library_failed four fetches failed said) = absurd (omega arith)
    by (source_failed four reads failed said) = absurd (omega arith)
    by (memory_wanting six said) = absurd (omega arith)
    by (sink_failed five failed) = absurd (omega arith)

-- With status 1 nothing was done to the source.
pub unread_task : (task : Task) (scene : Scene) (answer : ℕ) → Answers (Some task) scene answer → answer ≡ 1 → IsSame scene.source
unread_task task scene answer answers is = by (ending task scene answer answers)
  where
    by : Ending (plan task) scene answer → IsSame scene.source
    by (read_out input output zero reads read gave written) = absurd (omega arith)
    by (files_out output zero fetches none came unread written) = unread
    by (made_out output zero none unfetched made unread written) = unread
    by (bad_input input number fault status reads read gave said) = absurd (not_input fault answer status (λ two. omega arith) (λ three. omega arith))
    by (bad_files refusal one fetches came unread said) = unread
    by (library_failed four fetches failed said) = absurd (omega arith)
    by (source_failed four reads failed said) = absurd (omega arith)
    by (memory_wanting six said) = absurd (omega arith)
    by (sink_failed five failed) = absurd (omega arith)

-- Which of the two lines came with status 4, and which count rose.
pub failed_told : (task : Task) (scene : Scene) (answer : ℕ) → Answers (Some task) scene answer → answer ≡ 4
    → (FetchesFiles task × HasFailed scene.library × Appends scene.errs.before scene.errs.after (notice_line LibraryFailed))
    ⊎ (ReadsSource task × HasFailed scene.source × Appends scene.errs.before scene.errs.after (notice_line SourceFailed))
failed_told task scene answer answers is = by (ending task scene answer answers)
  where
    by : Ending (plan task) scene answer → (FetchesFiles task × HasFailed scene.library × Appends scene.errs.before scene.errs.after (notice_line LibraryFailed))
        ⊎ (ReadsSource task × HasFailed scene.source × Appends scene.errs.before scene.errs.after (notice_line SourceFailed))
    by (read_out input output zero reads read gave written) = absurd (omega arith)
    by (files_out output zero fetches none came unread written) = absurd (omega arith)
    by (made_out output zero none unfetched made unread written) = absurd (omega arith)
    by (bad_input input number fault status reads read gave said) = absurd (not_input fault answer status (λ two. omega arith) (λ three. omega arith))
    by (bad_files refusal one fetches came unread said) = absurd (omega arith)
    by (library_failed four fetches failed said) = inl (fetches, failed, said.1.0)
    by (source_failed four reads failed said) = inr (reads, failed, said.1.0)
    by (memory_wanting six said) = absurd (omega arith)
    by (sink_failed five failed) = absurd (omega arith)

-- The line of status 6.
pub memory_told : (task : Task) (scene : Scene) (answer : ℕ) → Answers (Some task) scene answer → answer ≡ 6 → Appends scene.errs.before scene.errs.after (notice_line Memory)
memory_told task scene answer answers is = by (ending task scene answer answers)
  where
    by : Ending (plan task) scene answer → Appends scene.errs.before scene.errs.after (notice_line Memory)
    by (read_out input output zero reads read gave written) = absurd (omega arith)
    by (files_out output zero fetches none came unread written) = absurd (omega arith)
    by (made_out output zero none unfetched made unread written) = absurd (omega arith)
    by (bad_input input number fault status reads read gave said) = absurd (not_input fault answer status (λ two. omega arith) (λ three. omega arith))
    by (bad_files refusal one fetches came unread said) = absurd (omega arith)
    by (library_failed four fetches failed said) = absurd (omega arith)
    by (source_failed four reads failed said) = absurd (omega arith)
    by (memory_wanting six said) = said.1.0
    by (sink_failed five failed) = absurd (omega arith)

-- A task's call never ends with 7.
pub never_seven : (task : Task) (scene : Scene) (answer : ℕ) → Answers (Some task) scene answer → answer ≡ 7 → ⊥
never_seven task scene answer answers is = by (ending task scene answer answers)
  where
    by : Ending (plan task) scene answer → ⊥
    by (read_out input output zero reads read gave written) = omega arith
    by (files_out output zero fetches none came unread written) = omega arith
    by (made_out output zero none unfetched made unread written) = omega arith
    by (bad_input input number fault status reads read gave said) = not_input fault answer status (λ two. omega arith) (λ three. omega arith)
    by (bad_files refusal one fetches came unread said) = omega arith
    by (library_failed four fetches failed said) = omega arith
    by (source_failed four reads failed said) = omega arith
    by (memory_wanting six said) = omega arith
    by (sink_failed five failed) = omega arith

-- Nothing is written but with 0 and 5, and 5 has its cause.
pub quiet_task : (task : Task) (scene : Scene) (answer : ℕ) → Answers (Some task) scene answer → answer ≢ 0 → answer ≢ 5 → scene.out.after ≡ scene.out.before
quiet_task task scene answer answers not_zero not_five = by (ending task scene answer answers)
  where
    by : Ending (plan task) scene answer → scene.out.after ≡ scene.out.before
    by (read_out input output zero reads read gave written) = absurd (not_zero zero)
    by (files_out output zero fetches none came unread written) = absurd (not_zero zero)
    by (made_out output zero none unfetched made unread written) = absurd (not_zero zero)
    by (bad_input input number fault status reads read gave said) = said.0.0
    by (bad_files refusal one fetches came unread said) = said.0.0
    by (library_failed four fetches failed said) = said.0.0
    by (source_failed four reads failed said) = said.0.0
    by (memory_wanting six said) = said.0.0
    by (sink_failed five failed) = absurd (not_five five)

pub sink_told : (task : Task) (scene : Scene) (answer : ℕ) → Answers (Some task) scene answer → answer ≡ 5 → HasFailed scene.out ⊎ HasFailed scene.errs
sink_told task scene answer answers is = by (ending task scene answer answers)
  where
    by : Ending (plan task) scene answer → HasFailed scene.out ⊎ HasFailed scene.errs
    by (read_out input output zero reads read gave written) = absurd (omega arith)
    by (files_out output zero fetches none came unread written) = absurd (omega arith)
    by (made_out output zero none unfetched made unread written) = absurd (omega arith)
    by (bad_input input number fault status reads read gave said) = absurd (not_input fault answer status (λ two. omega arith) (λ three. omega arith))
    by (bad_files refusal one fetches came unread said) = absurd (omega arith)
    by (library_failed four fetches failed said) = absurd (omega arith)
    by (source_failed four reads failed said) = absurd (omega arith)
    by (memory_wanting six said) = absurd (omega arith)
    by (sink_failed five failed) = failed

-- ---- completeness

-- Where nothing that is said to be held is refused and no object failed, the answer is 0 or 6.
pub completes : (task : Task) (scene : Scene) (answer : ℕ) → Answers (Some task) scene answer → TellsAll task scene.library.before scene.source.before
    → ((refusal : Refusal) → IsRefusedFor task scene.library.before scene.source.before refusal → ⊥) → HasNoFault scene → (answer ≡ 0) ⊎ (answer ≡ 6)
completes task scene answer answers tells sound sure = by (ending task scene answer answers)
  where
    by : Ending (plan task) scene answer → (answer ≡ 0) ⊎ (answer ≡ 6)
    by (read_out input output zero reads read gave written) = inl zero
    by (files_out output zero fetches none came unread written) = inl zero
    by (made_out output zero none unfetched made unread written) = inl zero
    by (bad_input input number fault status reads read gave said) =
        let told = tells.1 reads in
        let same = told_input scene.source told.0 input told.1 read in
        absurd (sound (Input number fault) (by_input input (told.1 ∙ ap Some same) (told_gives (plan task) scene input (Err (Input number fault)) tells.0 gave)))
    by (bad_files refusal one fetches came unread said) =
        let held = tells.0 fetches in
        absurd (sound refusal (by_files held.0 held.1 (came held.0 held.1).0))
    by (library_failed four fetches failed said) = absurd (sure.library failed)
    by (source_failed four reads failed said) = absurd (sure.source failed)
    by (memory_wanting six said) = inr six
    by (sink_failed five failed) = absurd (elim failed [ inl out ↦ sure.out out | inr errs ↦ sure.errs errs ])

-- ---- a sink that failed

-- A change of an object that tells nothing and counted no fault.
abbrev quiet_change : Change (List ℕ)
quiet_change = record { before = None; after = None; faults_before = 0; faults_after = 0 }

never_rose : HasFailed quiet_change → ⊥
never_rose rose = let less : 1 ≤ 0 = rose in omega arith

-- No task is refused for a sink.
refused_otherwise : (task : Task) (scene : Scene) (refusal : Refusal) → Comes task scene.library scene.requests scene.source (Err refusal) → status_of refusal ≢ 5
refused_otherwise task scene refusal comes five =
    let quiet = scene_of scene.library scene.requests scene.source quiet_change quiet_change in
    elim (sink_told task quiet (status_of refusal) (Err refusal, comes, ((refl, refl), inl (refl, (tt, refl)))) five) [
      | inl failed ↦ never_rose failed
      | inr failed ↦ never_rose failed
    ]

-- What there is where a sink failed.
pub part_told : (task : Task) (scene : Scene) (answer : ℕ) → Answers (Some task) scene answer → answer ≡ 5 → FailsSink task scene
part_told task scene answer (Ok output, comes, inl (zero, written, same)) five = absurd (omega arith)
part_told task scene answer (Ok output, comes, inr (is, part, told)) five = inl (output, comes, part, told)
part_told task scene answer (Err refusal, comes, (same, inl (is, told))) five = absurd (refused_otherwise task scene refusal comes (sym is ∙ five))
part_told task scene answer (Err refusal, comes, (same, inr (is, part))) five = inr (refusal, comes, same, part)

-- ---- what a task doesn't use

plan_unfetched : (way : Plan) (scene : Scene) (answer : ℕ) → AnswersBy way scene answer → (PlanFetches way → ⊥) → IsSame scene.library × IsSame scene.requests
plan_unfetched (of_nothing made) scene answer (outcome, (same, unasked, unread, makes), delivers) none = (same, unasked)
plan_unfetched (of_input gives) scene answer (outcome, (same, unasked, reads), delivers) none = (same, unasked)
plan_unfetched (of_table origin text) scene answer answers none = absurd (none tt)
plan_unfetched (under_table origin gives) scene answer answers none = absurd (none tt)
plan_unfetched (of_tables old new gives) scene answer answers none = absurd (none tt)
plan_unfetched (under_both origin file gives) scene answer answers none = absurd (none tt)

pub unfetched_files : (task : Task) (scene : Scene) (answer : ℕ) → Answers (Some task) scene answer → (FetchesFiles task → ⊥) → IsSame scene.library × IsSame scene.requests
unfetched_files task scene answer answers none = plan_unfetched (plan task) scene answer answers none

plan_unread : (way : Plan) (scene : Scene) (answer : ℕ) → AnswersBy way scene answer → (PlanReads way → ⊥) → IsSame scene.source
plan_unread (of_nothing made) scene answer (outcome, (same, unasked, unread, makes), delivers) none = unread
plan_unread (of_input gives) scene answer answers none = absurd (none tt)
plan_unread (of_table origin text) scene answer (outcome, (unread, builds), delivers) none = unread
plan_unread (under_table origin gives) scene answer answers none = absurd (none tt)
plan_unread (of_tables old new gives) scene answer (outcome, (unread, takes), delivers) none = unread
plan_unread (under_both origin file gives) scene answer answers none = absurd (none tt)

pub unread_input : (task : Task) (scene : Scene) (answer : ℕ) → Answers (Some task) scene answer → (ReadsSource task → ⊥) → IsSame scene.source
unread_input task scene answer answers none = plan_unread (plan task) scene answer answers none
