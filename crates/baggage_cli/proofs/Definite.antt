-- Lines and inputs come to one thing.
use Rattle.std.proofs.Common.{◌≡◌, inl, inr, ℕ, ◌≤◌, List, [], ◌∷◌, ◌++◌, Option, Some, None, Result, Ok, Err, refl, sym, ◌∙◌, ap, subst, arith}
use Rattle.context_model.specs.Framing.{form_of, least_budget}
use Rattle.context_model.specs.ContextFault.{IsFirstContextFault}
use Rattle.context_model.proofs.FirstFaults.{reads_one_way}
use Rattle.context_model.proofs.ContextFronts.{has_one_context}
use Rattle.context_model.proofs.MergedLaws.{has_one_merge}
use Rattle.wire_bytes.specs.declared.contexts.ByteCode.{ByteCode}
use Rattle.wire_bytes.specs.Reading.{byte_code_of}
use Rattle.bag_model.specs.Readings.{PathsOf}
use Rattle.bag_model.specs.Shapes.{Nodes}
use Rattle.bag_model.specs.Slots.{FindsSlot}
use Rattle.bag_model.specs.Tables.{IsTable}
use Rattle.bag_model.proofs.NamePathLaws.{name_paths_differ}
use Rattle.write_proof.specs.Certificates.{IsEndedAt}
use Rattle.bag_model.specs.Typed.{AreTyped, IsFirstIllTyped}
use Rattle.bag_model.proofs.IllTyped.{first_ill_typed}
use Rattle.bag_walks.proofs.OnePlace.{one_place}
use Rattle.wire_bytes.proofs.OneCode.{one_code}
use Rattle.bdl_load.specs.Loading.{Holding}
use Rattle.report_text.specs.Blocks.{IsBlock}
use Rattle.graph_text.specs.Additions.{Addition, graph_of}
use Rattle.graph_text.specs.Reading.{LinesAreDefinite}
use Rattle.trace_model.specs.Graphs.{Graph, IsRecorded}
use Rattle.trace_model.specs.Runs.{Lists}
use Rattle.text_carrier.specs.Carrying.{carried_text}
use Rattle.text_carrier.specs.Collecting.{Collects}
use Rattle.text_carrier.specs.declared.faults.CarryFault.{CarryFault}
use Rattle.text_carrier.specs.declared.faults.CarryFault.TheVariants as pieces
use Rattle.text_lines.specs.Lines.{Line, lines_of}
use Rattle.text_lines.specs.Readings.{Reading, IsDefinite, AllSay, IsFirstBad}
use Rattle.text_lines.proofs.HexLaws.{hex_lines_definite}
use Rattle.text_lines.proofs.ReadingLaws.{all_say_one, first_bad_one, good_not_bad, none_bad, at_most_definite}
use Rattle.command_line.specs.Commands.{Task, trim, merge, carry, collect, load, check, table as print_table, decode, run, run_json, run_table, evolve, why, verify}
use Rattle.baggage_cli.specs.declared.commands.merge.TheConstants.{LINES_MAX}
use Rattle.baggage_cli.specs.declared.refusals.InputCode.TheVariants.{Form as Excess, TooManyLines}
use Rattle.baggage_cli.specs.declared.refusals.InputFault.{InputFault}
use Rattle.baggage_cli.specs.declared.refusals.InputFault.TheVariants.{Code, Hex, Bytes}
use Rattle.baggage_cli.specs.declared.refusals.Refusal.{Refusal}
use Rattle.baggage_cli.specs.Carry.{AreOfContext, own_bytes, byte_lines, CarriesLines}
use Rattle.baggage_cli.specs.Collect.{CollectsLines}
use Rattle.baggage_cli.specs.Verify.{verified_line, IsVerified, VerifiesLines}
use Rattle.baggage_cli.specs.Decode.{DecodesLines}
use Rattle.baggage_cli.specs.Why.{IsPlace, IsNoPlace, IsUnexplained, IsExplained, ExplainsLines}
use Rattle.baggage_cli.specs.Laws.{TableLaws, GraphLaws, Laws}
use Rattle.baggage_cli.specs.Merge.{lists_of, merged_lines, IsMergeLine, MergesLines}
use Rattle.baggage_cli.specs.Outcomes.{Outcome}
use Rattle.baggage_cli.specs.Plans.{Plan, of_nothing, of_input, of_table, under_table, of_tables, under_both, plan, PlanGives}
use Rattle.baggage_cli.specs.Reading.{Framed, Within, RefusesLines, ReadsLines, only_one, ReadsOne, list_bytes, context_bytes, typed_bytes, cut_bytes, cut_lines, context_lines, typed_lines}
use Rattle.baggage_cli.specs.Run.{ReportForm, as_lines, as_json, input_fault, IsReportAs, IsRunReport, graph_inputs, GraphGives, RunsLines}
use Rattle.baggage_cli.specs.Tables.{Origin, FileGives, TableGives}
use Rattle.baggage_cli.specs.Top.{InputGives}
use Rattle.baggage_cli.specs.Trim.{trimmed_line, TrimsLines}
use Rattle.baggage_cli.proofs.GraphInputs.{lines_say}

-- There is one outcome for an input.
abbrev pub GivesOne : {A : Type 0} → (A → Outcome → Type 0) → Type 0
GivesOne {A} gives = (input : A) (a b : Outcome) → gives input a → gives input b → a ≡ b

-- ---- one fault for what is wrong

same_fault : (f g : InputFault) (i j : ℕ) (c d : ByteCode) → f ≡ Bytes i c → g ≡ Bytes j d → i ≡ j → byte_code_of c ≡ byte_code_of d → f ≡ g
same_fault f g i j c d f_is g_is offsets codes = let code = one_code c d codes in cc (f_is, g_is, offsets, code)

-- ---- lines of lists and of contexts

-- What is said in the form of its bytes is one where its list is.
one_framed : (bytes : List ℕ) (a b : Framed) → a.0 ≡ form_of bytes → b.0 ≡ form_of bytes → a.1 ≡ b.1 → a ≡ b
one_framed bytes (form, list) (other, same) form_is other_is lists = cc (form_is, other_is, lists)

list_bytes_definite : IsDefinite list_bytes
list_bytes_definite = record {
  one_said = λ earlier bytes a b (form, atoms, f) (other, too, g). one_framed bytes a b form other ((reads_one_way bytes).list a.1 b.1 atoms too f g);
  one_fault = λ earlier bytes f g (i, c, first, f_is) (j, d, other, g_is).
      let same = (reads_one_way bytes).fault i j (byte_code_of c) (byte_code_of d) first other in
      same_fault f g i j c d f_is g_is same.0 same.1;
  not_both = λ earlier bytes said fault (form, atoms, f) (i, c, first, is). (reads_one_way bytes).either said.1 i (byte_code_of c) atoms f first;
}

context_bytes_definite : IsDefinite context_bytes
context_bytes_definite = record {
  one_said = λ earlier bytes a b (form, f) (other, g). one_framed bytes a b form other ((has_one_context bytes).list a.1 b.1 f g);
  one_fault = λ earlier bytes f g (i, c, first, f_is) (j, d, other, g_is).
      let same = (has_one_context bytes).fault i j (byte_code_of c) (byte_code_of d) first other in
      same_fault f g i j c d f_is g_is same.0 same.1;
  not_both = λ earlier bytes said fault (form, f) (i, c, first, is). (has_one_context bytes).either said.1 i (byte_code_of c) f first;
}

-- What is wrong with bytes under a table.
abbrev TypedFault : Nodes → List ℕ → InputFault → Type 0
TypedFault table bytes fault = (typed_bytes table).faults [] bytes fault

one_typed_fault : (table : Nodes) (bytes : List ℕ) (f g : InputFault) → TypedFault table bytes f → TypedFault table bytes g → f ≡ g
one_typed_fault table bytes f g (inl bad) (inl other) = context_bytes_definite.one_fault [] bytes f g bad other
one_typed_fault table bytes f g (inl bad) (inr (list, place, says, first, is)) = absurd (context_bytes_definite.not_both [] bytes (form_of bytes, list) f (refl, says) bad)
one_typed_fault table bytes f g (inr (list, place, says, first, is)) (inl bad) = absurd (context_bytes_definite.not_both [] bytes (form_of bytes, list) g (refl, says) bad)
one_typed_fault table bytes f g (inr (list, i, says, first, f_is)) (inr (others, j, say, other, g_is)) =
    let same = (has_one_context bytes).list others list say says in
    let place = one_place table list i j first (subst (λ l. IsFirstIllTyped table l j) same other) in
    cc (f_is, g_is, same, place)

said_not_ill_typed : (table : Nodes) (bytes : List ℕ) (said : Framed) (fault : InputFault) → context_bytes.says [] bytes said → AreTyped table (PathsOf said.1) [] → TypedFault table bytes fault → ⊥
said_not_ill_typed table bytes said fault says typed (inl bad) = context_bytes_definite.not_both [] bytes said fault says bad
said_not_ill_typed table bytes said fault says typed (inr (list, place, say, first, is)) =
    let same = (has_one_context bytes).list list said.1 say says.1 in
    first_ill_typed table said.1 place (subst (λ l. IsFirstIllTyped table l place) same first) typed

-- What is wrong with bytes that are cut to a budget.
abbrev CutFault : ℕ → List ℕ → InputFault → Type 0
CutFault budget bytes fault = (cut_bytes budget).faults [] bytes fault

one_cut_fault : (budget : ℕ) (bytes : List ℕ) (f g : InputFault) → CutFault budget bytes f → CutFault budget bytes g → f ≡ g
one_cut_fault budget bytes f g (inl (few, f_is)) (inl (less, g_is)) = f_is ∙ sym g_is
one_cut_fault budget bytes f g (inl (few, f_is)) (inr (enough, bad)) = absurd (omega arith)
one_cut_fault budget bytes f g (inr (enough, bad)) (inl (few, g_is)) = absurd (omega arith)
one_cut_fault budget bytes f g (inr (enough, bad)) (inr (also, other)) = list_bytes_definite.one_fault [] bytes f g bad other

said_not_uncut : (budget : ℕ) (bytes : List ℕ) (said : Framed) (fault : InputFault) → least_budget (form_of bytes) ≤ budget → list_bytes.says [] bytes said → CutFault budget bytes fault → ⊥
said_not_uncut budget bytes said fault enough says (inl (few, is)) = omega arith
said_not_uncut budget bytes said fault enough says (inr (also, bad)) = list_bytes_definite.not_both [] bytes said fault says bad

cut_bytes_definite : (budget : ℕ) → IsDefinite (cut_bytes budget)
cut_bytes_definite budget = record {
  one_said = λ earlier bytes a b f g. list_bytes_definite.one_said [] bytes a b f.1 g.1;
  one_fault = λ earlier bytes f g. one_cut_fault budget bytes f g;
  not_both = λ earlier bytes said fault f. said_not_uncut budget bytes said fault f.0 f.1;
}

cut_lines_definite : (budget : ℕ) → IsDefinite (cut_lines budget)
cut_lines_definite budget = hex_lines_definite Hex (cut_bytes budget) (cut_bytes_definite budget)

context_lines_definite : IsDefinite context_lines
context_lines_definite = hex_lines_definite Hex context_bytes context_bytes_definite

typed_bytes_definite : (table : Nodes) → IsDefinite (typed_bytes table)
typed_bytes_definite table = record {
  one_said = λ earlier bytes a b f g. context_bytes_definite.one_said [] bytes a b (f.0, f.1) (g.0, g.1);
  one_fault = λ earlier bytes f g. one_typed_fault table bytes f g;
  not_both = λ earlier bytes said fault f. said_not_ill_typed table bytes said fault (f.0, f.1) f.2;
}

typed_lines_definite : (table : Nodes) → IsDefinite (typed_lines table)
typed_lines_definite table = hex_lines_definite Hex (typed_bytes table) (typed_bytes_definite table)

own_bytes_definite : IsDefinite own_bytes
own_bytes_definite = record {
  one_said = λ earlier bytes a b f g. f.0 ∙ sym g.0;
  one_fault = λ earlier bytes f g. context_bytes_definite.one_fault [] bytes f g;
  not_both = λ earlier bytes said fault f. context_bytes_definite.not_both [] bytes (form_of bytes, f.1.0) fault (refl, f.1.1);
}

byte_lines_definite : IsDefinite byte_lines
byte_lines_definite = hex_lines_definite Hex own_bytes own_bytes_definite

only_one_definite : {A : Type 0} (reading : Reading A InputFault) → IsDefinite reading → IsDefinite (only_one reading)
only_one_definite reading definite = at_most_definite 1 (Code Excess) reading definite

merged_lines_definite : IsDefinite merged_lines
merged_lines_definite = at_most_definite LINES_MAX (Code TooManyLines) context_lines context_lines_definite

-- ---- lines come to one outcome

refuses_lines_one : {A : Type 0} (reading : Reading A InputFault) → IsDefinite reading → (lines : List Line) (r s : Refusal)
    → RefusesLines reading lines r → RefusesLines reading lines s → r ≡ s
refuses_lines_one reading definite lines r s (m, f, bad, r_is) (n, g, other, s_is) =
    let same = first_bad_one reading definite lines m n f g bad other in
    cc (r_is, s_is, same.0, same.1)

-- What lines say and how they are refused exclude each other.
said_not_refused : {A : Type 0} (reading : Reading A InputFault) → IsDefinite reading → (lines : List Line) (said : List A) (r : Refusal)
    → AllSay reading [] lines said → RefusesLines reading lines r → ⊥
said_not_refused reading definite lines said r all (number, fault, bad, is) = good_not_bad reading definite lines said number fault all bad

reads_lines_one : {A : Type 0} (reading : Reading A InputFault) → IsDefinite reading → (gives : List A → List ℕ → Type 0)
    → ((said : List A) (x y : List ℕ) → gives said x → gives said y → x ≡ y)
    → (lines : List Line) (a b : Outcome) → ReadsLines reading gives lines a → ReadsLines reading gives lines b → a ≡ b
reads_lines_one reading definite gives one lines (Ok x) (Ok y) (said, all, gave) (others, every, given) =
    let same = all_say_one reading definite lines others said every all in
    ap Ok (one said x y gave (subst (λ s. gives s y) same given))
reads_lines_one reading definite gives one lines (Ok x) (Err s) (said, all, gave) refused = absurd (said_not_refused reading definite lines said s all refused)
reads_lines_one reading definite gives one lines (Err r) (Ok y) refused (said, all, gave) = absurd (said_not_refused reading definite lines said r all refused)
reads_lines_one reading definite gives one lines (Err r) (Err s) f g = ap Err (refuses_lines_one reading definite lines r s f g)

merged_one : (said : List Framed) (x y : List ℕ) → IsMergeLine said x → IsMergeLine said y → x ≡ y
merged_one said x y (a, is, x_is) (b, other, y_is) = let same = has_one_merge (lists_of said) a b is other in cc (x_is, y_is, same)

-- ---- one line

-- What all lines say gives the output, where all is one.
abbrev GivesOnly : {A : Type 0} → (A → List ℕ → Type 0) → List A → List ℕ → Type 0
GivesOnly {A} gives said output = (a : A) × (said ≡ a ∷ []) × gives a output

only_given : {A : Type 0} (gives : A → List ℕ → Type 0) → ((a : A) (x y : List ℕ) → gives a x → gives a y → x ≡ y)
    → (said : List A) (x y : List ℕ) → GivesOnly gives said x → GivesOnly gives said y → x ≡ y
only_given {A} gives one said x y (a, a_is, gave) (b, b_is, given) =
    let only : ◌≡◌ {A = List A} (b ∷ []) (a ∷ []) = sym b_is ∙ a_is in
    let same : b ≡ a = cc only in
    one a x y gave (subst (λ c. gives c y) same given)

-- Without a line nothing is said, and nothing is bad.
none_said : {A : Type 0} (reading : Reading A InputFault) (said : List A) (a : A) → said ≡ a ∷ [] → AllSay reading [] [] said → ⊥
none_said reading [] a is all = cc is
none_said reading (b ∷ said) a is all = all

no_line : {A : Type 0} (reading : Reading A InputFault) (gives : A → List ℕ → Type 0) (lines : List Line) (outcome : Outcome) → lines ≡ []
    → ReadsLines reading (GivesOnly gives) lines outcome → ⊥
no_line reading gives lines (Ok output) none (said, all, (a, is, gave)) = none_said reading said a is (subst (λ ls. AllSay reading [] ls said) none all)
no_line reading gives lines (Err refusal) none (number, fault, bad, is) = none_bad reading number fault (subst (λ ls. IsFirstBad reading ls number fault) none bad)

reads_one_one : {A : Type 0} (reading : Reading A InputFault) → IsDefinite reading → (gives : A → List ℕ → Type 0)
    → ((a : A) (x y : List ℕ) → gives a x → gives a y → x ≡ y)
    → (lines : List Line) (a b : Outcome) → ReadsOne reading gives lines a → ReadsOne reading gives lines b → a ≡ b
reads_one_one reading definite gives one lines a b (inl f) (inl g) = f.1 ∙ sym g.1
reads_one_one reading definite gives one lines a b (inl f) (inr g) = absurd (no_line (only_one reading) gives lines b f.0 g)
reads_one_one reading definite gives one lines a b (inr f) (inl g) = absurd (no_line (only_one reading) gives lines a g.0 f)
reads_one_one reading definite gives one lines a b (inr f) (inr g) =
    reads_lines_one (only_one reading) (only_one_definite reading definite) (GivesOnly gives) (only_given gives one) lines a b f g

carries_one : (width : ℕ) (bytes : List ℕ) (x y : List ℕ) → x ≡ carried_text width bytes → y ≡ carried_text width bytes → x ≡ y
carries_one width bytes x y x_is y_is = x_is ∙ sym y_is

trims_one : (budget : ℕ) (said : Framed) (x y : List ℕ) → x ≡ trimmed_line budget said → y ≡ trimmed_line budget said → x ≡ y
trims_one budget said x y x_is y_is = x_is ∙ sym y_is

pub ok_no_err : (output : List ℕ) (refusal : Refusal) → ◌≡◌ {A = Outcome} (Ok output) (Err refusal) → ⊥
ok_no_err output refusal e = cc e

within_one : (gives : List Line → Outcome → Type 0) → ((lines : List Line) (a b : Outcome) → gives lines a → gives lines b → a ≡ b) → GivesOne (Within gives)
within_one gives one input a b (inl f) (inl g) = f.1 ∙ sym g.1
within_one gives one input a b (inl f) (inr g) = absurd (let long = f.0 in let short = g.0 in omega arith)
within_one gives one input a b (inr f) (inl g) = absurd (let long = g.0 in let short = f.0 in omega arith)
within_one gives one input a b (inr f) (inr g) = one (lines_of input) a b f.1 g.1

-- ---- pieces

some_bytes : (a b : List ℕ) → ◌≡◌ {A = Result (List ℕ) CarryFault} (Ok a) (Ok b) → a ≡ b
some_bytes a b e = cc e

some_fault : (a b : CarryFault) → ◌≡◌ {A = Result (List ℕ) CarryFault} (Err a) (Err b) → a ≡ b
some_fault a b e = cc e

never_both : (bytes : List ℕ) (fault : CarryFault) → ◌≡◌ {A = Result (List ℕ) CarryFault} (Ok bytes) (Err fault) → ⊥
never_both bytes fault e = cc e

module _ (laws : Laws) where
  -- Lines of pieces say bytes once, are refused once, and never both.
  same_bytes : (lines : List Line) (a b : List ℕ) → Collects lines (Ok a) → Collects lines (Ok b) → a ≡ b
  same_bytes lines a b says say = elim ((laws.one_collected) lines (Ok a) (Ok b) says say) [
    | inl same ↦ some_bytes a b same
    | inr wanting ↦ elim wanting [ inl first ↦ absurd (never_both a pieces.Memory first) | inr second ↦ absurd (never_both b pieces.Memory second) ]
  ]

  same_refusal : (lines : List Line) (a b : CarryFault) → (a ≡ pieces.Memory → ⊥) → (b ≡ pieces.Memory → ⊥) → Collects lines (Err a) → Collects lines (Err b) → a ≡ b
  same_refusal lines a b found also refuses refuse = elim ((laws.one_collected) lines (Err a) (Err b) refuses refuse) [
    | inl same ↦ some_fault a b same
    | inr wanting ↦ elim wanting [ inl first ↦ absurd (found (some_fault a pieces.Memory first)) | inr second ↦ absurd (also (some_fault b pieces.Memory second)) ]
  ]

  said_not_refused_pieces : (lines : List Line) (bytes : List ℕ) (fault : CarryFault) → (fault ≡ pieces.Memory → ⊥) → Collects lines (Ok bytes) → Collects lines (Err fault) → ⊥
  said_not_refused_pieces lines bytes fault found says refuses = elim ((laws.one_collected) lines (Ok bytes) (Err fault) says refuses) [
    | inl same ↦ never_both bytes fault same
    | inr wanting ↦ elim wanting [ inl first ↦ never_both bytes pieces.Memory first | inr second ↦ found (some_fault fault pieces.Memory second) ]
  ]

  -- Lines that say the bytes of a context aren't refused.
  collected_not_refused : (lines : List Line) (bytes : List ℕ) (refusal : Refusal) → Collects lines (Ok bytes) → AreOfContext bytes → CollectsLines lines (Err refusal) → ⊥
  collected_not_refused lines bytes refusal says of (inl (fault, found, refuses, is)) = said_not_refused_pieces lines bytes fault found says refuses
  collected_not_refused lines bytes refusal says (list, of) (inr (others, offset, code, say, first, is)) =
      (has_one_context bytes).either list offset (byte_code_of code) of (subst (λ b. IsFirstContextFault b offset (byte_code_of code)) (same_bytes lines others bytes say says) first)

  collects_lines_one : (lines : List Line) (a b : Outcome) → CollectsLines lines a → CollectsLines lines b → a ≡ b
  collects_lines_one lines (Ok x) (Ok y) (bytes, says, of, x_is) (others, say, also, y_is) = let same = same_bytes lines bytes others says say in cc (x_is, y_is, same)
  collects_lines_one lines (Ok x) (Err s) (bytes, says, of, is) refused = absurd (collected_not_refused lines bytes s says of refused)
  collects_lines_one lines (Err r) (Ok y) refused (bytes, says, of, is) = absurd (collected_not_refused lines bytes r says of refused)
  collects_lines_one lines (Err r) (Err s) (inl (fault, found, refuses, r_is)) (inl (other, also, refuse, s_is)) =
      let same = same_refusal lines fault other found also refuses refuse in cc (r_is, s_is, same)
  collects_lines_one lines (Err r) (Err s) (inl (fault, found, refuses, r_is)) (inr (bytes, offset, code, says, first, s_is)) = absurd (said_not_refused_pieces lines bytes fault found says refuses)
  collects_lines_one lines (Err r) (Err s) (inr (bytes, offset, code, says, first, r_is)) (inl (fault, found, refuses, s_is)) = absurd (said_not_refused_pieces lines bytes fault found says refuses)
  collects_lines_one lines (Err r) (Err s) (inr (bytes, i, c, says, first, r_is)) (inr (others, j, d, say, other, s_is)) =
      let same = (has_one_context bytes).fault i j (byte_code_of c) (byte_code_of d) first (subst (λ b. IsFirstContextFault b j (byte_code_of d)) (same_bytes lines others bytes say says) other) in
      let fault = same_fault (Bytes i c) (Bytes j d) i j c d refl refl same.0 same.1 in
      cc (r_is, s_is, fault)

-- ---- graphs

graph_inputs_definite : LinesAreDefinite → (table : Nodes) → IsTable table → IsDefinite (graph_inputs table)
graph_inputs_definite definite table is_table = record {
  one_said = λ earlier text a b f g. (definite table is_table).one_said earlier text a b f g;
  one_fault = λ earlier text f g (x, bad, f_is) (y, other, g_is). f_is ∙ ap input_fault ((definite table is_table).one_fault earlier text x y bad other) ∙ sym g_is;
  not_both = λ earlier text said fault says (x, bad, is). (definite table is_table).not_both earlier text said x says bad;
}

-- An input comes to one outcome where its lines do.
within_text_one : (gives : List Line → Outcome → Type 0) → ((text : List ℕ) (a b : Outcome) → gives (lines_of text) a → gives (lines_of text) b → a ≡ b) → GivesOne (Within gives)
within_text_one gives one input a b (inl f) (inl g) = f.1 ∙ sym g.1
within_text_one gives one input a b (inl f) (inr g) = absurd (let long = f.0 in let short = g.0 in omega arith)
within_text_one gives one input a b (inr f) (inl g) = absurd (let long = g.0 in let short = f.0 in omega arith)
within_text_one gives one input a b (inr f) (inr g) = one input a b f.1 g.1

module _ (laws : GraphLaws) (table : Nodes) (is_table : IsTable table) where
  -- A run has one report of each form.
  reports_one : (form : ReportForm) (graph : Graph) (lists : Lists) (x y : List ℕ) → IsReportAs form table graph lists x → IsReportAs form table graph lists y → x ≡ y
  reports_one as_lines graph lists x y report other = laws.one_report table graph lists x y report other
  reports_one as_json graph lists x y (a, report, x_is) (b, other, y_is) = x_is ∙ ap (λ text. text ++ 10 ∷ []) (laws.one_json_report table graph lists a b report other) ∙ sym y_is

  -- A graph that is run gives one report.
  runs_one : (form : ReportForm) (graph : Graph) → IsRecorded table graph → (x y : List ℕ) → IsRunReport form table graph x → IsRunReport form table graph y → x ≡ y
  runs_one form graph recorded x y (lists, ran, report) (others, again, reported) =
      let one = laws.one_run table graph others lists recorded again ran in
      reports_one form graph lists x y report (subst (λ ls. IsReportAs form table graph ls y) one reported)

  -- Lines that say a graph aren't refused for a line.
  graph_not_bad : (text : List ℕ) (every : List Addition) (refusal : Refusal) → AllSay (graph_inputs table) [] (lines_of text) every → RefusesLines (graph_inputs table) (lines_of text) refusal → ⊥
  graph_not_bad text every refusal all refused = said_not_refused (graph_inputs table) (graph_inputs_definite laws.definite table is_table) (lines_of text) every refusal all refused

  -- They say one.
  same_graph : (text : List ℕ) (every others : List Addition) → AllSay (graph_inputs table) [] (lines_of text) every → AllSay (graph_inputs table) [] (lines_of text) others → others ≡ every
  same_graph text every others all say = all_say_one (graph_inputs table) (graph_inputs_definite laws.definite table is_table) (lines_of text) others every say all

  graph_recorded : (text : List ℕ) (every : List Addition) → AllSay (graph_inputs table) [] (lines_of text) every → IsRecorded table (graph_of every)
  graph_recorded text every all = laws.recorded table text (graph_of every) is_table (every, lines_say table [] (lines_of text) every all, refl)

  -- The lines of a text come to one outcome, where each graph gives one output.
  graph_gives_one : (gives : Graph → List ℕ → Type 0) → ((graph : Graph) → IsRecorded table graph → (x y : List ℕ) → gives graph x → gives graph y → x ≡ y)
      → (text : List ℕ) (a b : Outcome) → GraphGives table gives (lines_of text) a → GraphGives table gives (lines_of text) b → a ≡ b
  graph_gives_one gives one text (Ok x) (Ok y) (every, all, gave) (others, say, given) =
      ap Ok (one (graph_of every) (graph_recorded text every all) x y gave (subst (λ said. gives (graph_of said) y) (same_graph text every others all say) given))
  graph_gives_one gives one text (Ok x) (Err s) (every, all, gave) refused = absurd (graph_not_bad text every s all refused)
  graph_gives_one gives one text (Err r) (Ok y) refused (every, all, gave) = absurd (graph_not_bad text every r all refused)
  graph_gives_one gives one text (Err r) (Err s) f g = ap Err (refuses_lines_one (graph_inputs table) (graph_inputs_definite laws.definite table is_table) (lines_of text) r s f g)

  run_gives_one : (form : ReportForm) → GivesOne (Within (RunsLines form table))
  run_gives_one form = within_text_one (RunsLines form table) (graph_gives_one (IsRunReport form table) (runs_one form))

-- ---- certificates

-- Of two outcomes one is a refusal.
abbrev pub OneRefused : Outcome → Outcome → Type 0
OneRefused (Ok x) (Ok y) = ⊥
OneRefused (Ok x) (Err s) = Unit {0}
OneRefused (Err r) b = Unit {0}

-- A path is that of one slot, or of none.
one_slot : (table : Nodes) (path : List ℕ) (a b : ℕ) → IsTable table → FindsSlot table path (Some a) → FindsSlot table path (Some b) → a ≡ b
one_slot table path a b is_table (at, there, is) (other, also, same) = name_paths_differ table a b at other is_table there also (is ∙ sym same)

no_slot : (table : Nodes) (path : List ℕ) (a : ℕ) → FindsSlot table path (Some a) → FindsSlot table path None → ⊥
no_slot table path a (at, there, is) none = none a at there is

-- What isn't there isn't there for one reason.
no_place_one : (table : Nodes) (graph : Graph) (step : ℕ) (path : List ℕ) (a b : Refusal) → IsNoPlace table graph step path a → IsNoPlace table graph step path b → a ≡ b
no_place_one table graph step path a b (inl (big, a_is)) (inl (also, b_is)) = a_is ∙ sym b_is
no_place_one table graph step path a b (inl (big, a_is)) (inr (small, none, b_is)) = absurd (omega arith)
no_place_one table graph step path a b (inr (small, none, a_is)) (inl (big, b_is)) = absurd (omega arith)
no_place_one table graph step path a b (inr (small, none, a_is)) (inr (less, also, b_is)) = a_is ∙ sym b_is

place_or_not : (table : Nodes) (graph : Graph) (step : ℕ) (path : List ℕ) (slot : ℕ) (refusal : Refusal) → IsPlace table graph step path slot → IsNoPlace table graph step path refusal → ⊥
place_or_not table graph step path slot refusal (small, finds) (inl (big, is)) = omega arith
place_or_not table graph step path slot refusal (small, finds) (inr (less, none, is)) = no_slot table path slot finds none

-- What is left without a certificate is so for one reason.
unexplained_one : (table : Nodes) (graph : Graph) (step : ℕ) (path : List ℕ) (a b : Refusal) → IsUnexplained table graph step path a → IsUnexplained table graph step path b → a ≡ b
unexplained_one table graph step path a b (inl none) (inl also) = no_place_one table graph step path a b none also
unexplained_one table graph step path a b (inl none) (inr (lists, slot, ran, place, unended, is)) = absurd (place_or_not table graph step path slot a place none)
unexplained_one table graph step path a b (inr (lists, slot, ran, place, unended, is)) (inl none) = absurd (place_or_not table graph step path slot b place none)
unexplained_one table graph step path a b (inr (lists, slot, ran, place, unended, a_is)) (inr (others, other, again, there, also, b_is)) = a_is ∙ sym b_is

-- What has a certificate isn't left without one.
explained_not_left : Laws → (table : Nodes) (graph : Graph) (step : ℕ) (path output : List ℕ) (refusal : Refusal) → IsRecorded table graph
    → IsExplained step path table graph output → IsUnexplained table graph step path refusal → ⊥
explained_not_left laws table graph step path output refusal recorded (lists, slot, explained) (inl none) = place_or_not table graph step path slot refusal explained.place none
explained_not_left laws table graph step path output refusal recorded (lists, slot, explained) (inr (others, other, ran, place, unended, is)) =
    let same : others ≡ lists = laws.graphs.one_run table graph others lists recorded ran explained.run in
    let slots : other ≡ slot = one_slot table path other slot recorded.table place.1 explained.place.1 in
    unended (subst (λ ls. IsEndedAt table ls step other) (sym same) (subst (λ s. IsEndedAt table lists step s) (sym slots) explained.ended))

module _ (laws : Laws) (table : Nodes) (is_table : IsTable table) where
  -- A certificate has one verdict.
  verdicts_one : (certificate : List ℕ) (graph : Graph) → IsRecorded table graph → (x y : List ℕ) → IsVerified table certificate graph x → IsVerified table certificate graph y → x ≡ y
  verdicts_one certificate graph recorded x y (verdict, right, x_is) (other, also, y_is) =
      x_is ∙ ap verified_line (laws.certificates.one_verdict table graph certificate verdict other is_table right also) ∙ sym y_is

  checks_one : (certificate : List ℕ) → GivesOne (Within (VerifiesLines table certificate))
  checks_one certificate = within_text_one (VerifiesLines table certificate) (graph_gives_one laws.graphs table is_table (IsVerified table certificate) (verdicts_one certificate))

  -- Lines that have a certificate aren't refused.
  explained_not_refused : (step : ℕ) (path text x : List ℕ) (s : Refusal) → ExplainsLines step path table (lines_of text) (Ok x) → ExplainsLines step path table (lines_of text) (Err s) → ⊥
  explained_not_refused step path text x s (inl (every, all, gave)) (inl bad) = graph_not_bad laws.graphs table is_table text every s all bad
  explained_not_refused step path text x s (inl (every, all, gave)) (inr (others, left, say, reason, is)) =
      let same = same_graph laws.graphs table is_table text every others all say in
      explained_not_left laws table (graph_of every) step path x left (graph_recorded laws.graphs table is_table text every all) gave
      (subst (λ said. IsUnexplained table (graph_of said) step path left) same reason)
  explained_not_refused step path text x s (inr (every, left, all, reason, is)) g = ok_no_err x left is

  -- Lines that are refused come to that alone.
  explains_one : (step : ℕ) (path text : List ℕ) (a b : Outcome) → OneRefused a b → ExplainsLines step path table (lines_of text) a → ExplainsLines step path table (lines_of text) b → a ≡ b
  explains_one step path text (Ok x) (Ok y) refused f g = absurd refused
  explains_one step path text (Ok x) (Err s) refused f g = absurd (explained_not_refused step path text x s f g)
  explains_one step path text (Err r) (Ok y) refused f g = absurd (explained_not_refused step path text y r g f)
  explains_one step path text (Err r) (Err s) refused (inl f) (inl g) =
      ap Err (refuses_lines_one (graph_inputs table) (graph_inputs_definite laws.graphs.definite table is_table) (lines_of text) r s f g)
  explains_one step path text (Err r) (Err s) refused (inl bad) (inr (every, left, all, reason, is)) = absurd (graph_not_bad laws.graphs table is_table text every r all bad)
  explains_one step path text (Err r) (Err s) refused (inr (every, left, all, reason, is)) (inl bad) = absurd (graph_not_bad laws.graphs table is_table text every s all bad)
  explains_one step path text (Err r) (Err s) refused (inr (every, left, all, reason, r_is)) (inr (others, other, say, because, s_is)) =
      let same = same_graph laws.graphs table is_table text every others all say in
      let one = unexplained_one table (graph_of every) step path left other reason (subst (λ said. IsUnexplained table (graph_of said) step path other) same because) in
      r_is ∙ ap Err one ∙ sym s_is

-- ---- inputs under a table

-- An input that is refused comes to that alone.
abbrev pub RefusesOnce : (List ℕ → Outcome → Type 0) → Type 0
RefusesOnce gives = (input : List ℕ) (a b : Outcome) → OneRefused a b → gives input a → gives input b → a ≡ b

-- What comes to one thing does so where it is refused.
once : (gives : List ℕ → Outcome → Type 0) → GivesOne gives → RefusesOnce gives
once gives one input a b refused f g = one input a b f g

module _ (laws : Laws) (table : Nodes) (is_table : IsTable table) where
  decodes_once : RefusesOnce (Within (DecodesLines table))
  decodes_once =
      once (Within (DecodesLines table)) (within_one (DecodesLines table)
      (reads_one_one (typed_lines table) (typed_lines_definite table) (λ said. IsBlock table said.0 said.1) (λ said. laws.one_block table said.0 said.1)))

  runs_once : (form : ReportForm) → RefusesOnce (Within (RunsLines form table))
  runs_once form = once (Within (RunsLines form table)) (run_gives_one laws.graphs table is_table form)

  explains_once : (step : ℕ) (path : List ℕ) → RefusesOnce (Within (ExplainsLines step path table))
  explains_once step path input a b refused (inl f) (inl g) = f.1 ∙ sym g.1
  explains_once step path input a b refused (inl f) (inr g) = absurd (let long = f.0 in let short = g.0 in omega arith)
  explains_once step path input a b refused (inr f) (inl g) = absurd (let long = g.0 in let short = f.0 in omega arith)
  explains_once step path input a b refused (inr f) (inr g) = explains_one laws table is_table step path input a b refused f.1 g.1

-- ---- tasks

pub ok_table : (a b : Nodes) → ◌≡◌ {A = Result Nodes Refusal} (Ok a) (Ok b) → a ≡ b
ok_table a b e = cc e

-- The files that the library says it holds give one table.
pub same_table : TableLaws → (origin : Origin) (files : Option Holding) (held other : Holding) (table found : Nodes) → files ≡ Some held → TableGives origin held (Ok table)
    → files ≡ Some other → TableGives origin other (Ok found) → found ≡ table
same_table laws origin files held other table found told is same known =
    let whole : ◌≡◌ {A = Option Holding} (Some other) (Some held) = sym same ∙ told in
    let one : other ≡ held = cc whole in
    ok_table found table (laws.gives_one origin held (Ok found) (Ok table) (subst (λ h. TableGives origin h (Ok found)) one known) is)

pub refused_right : (a : Outcome) (r : Refusal) → OneRefused a (Err r)
refused_right (Ok x) r = tt
refused_right (Err s) r = tt

some_file : (a b : List ℕ) → ◌≡◌ {A = Option (List ℕ)} (Some a) (Some b) → a ≡ b
some_file a b e = cc e

-- The files that the library says it holds give one certificate.
same_file : (file : List ℕ) (files : Option Holding) (held other : Holding) (text found : List ℕ) → files ≡ Some held → held file ≡ Some text → files ≡ Some other → other file ≡ Some found → found ≡ text
same_file file files held other text found told is same known =
    let whole : ◌≡◌ {A = Option Holding} (Some other) (Some held) = sym same ∙ told in
    let one : other ≡ held = cc whole in
    some_file found text (sym known ∙ ap (λ h. h file) one ∙ is)

-- Each input that is refused comes to that alone, under each table and beside each file.
abbrev pub PlanOnce : Plan → Type 0
PlanOnce (of_nothing made) = Unit {0}
PlanOnce (of_input gives) = RefusesOnce (Within gives)
PlanOnce (of_table origin text) = Unit {0}
PlanOnce (under_table origin gives) = (table : Nodes) → IsTable table → RefusesOnce (Within (gives table))
PlanOnce (of_tables old new gives) = Unit {0}
PlanOnce (under_both origin file gives) = (table : Nodes) (text : List ℕ) → IsTable table → RefusesOnce (Within (gives table text))

each_once : Laws → (task : Task) → PlanOnce (plan task)
each_once laws (trim budget) =
    once (Within (TrimsLines budget)) (within_one (TrimsLines budget)
    (reads_one_one (cut_lines budget) (cut_lines_definite budget) (λ said output. output ≡ trimmed_line budget said) (trims_one budget)))
each_once laws merge = once (Within MergesLines) (within_one MergesLines (reads_lines_one merged_lines merged_lines_definite IsMergeLine merged_one))
each_once laws (carry width) =
    once (Within (CarriesLines width)) (within_one (CarriesLines width)
    (reads_one_one byte_lines byte_lines_definite (λ bytes output. output ≡ carried_text width bytes) (carries_one width)))
each_once laws collect = once (Within CollectsLines) (within_one CollectsLines (collects_lines_one laws))
each_once laws (load rounds) = tt
each_once laws (check file bag) = tt
each_once laws (print_table file bag) = tt
each_once laws (decode file bag) = λ table is_table. decodes_once laws table is_table
each_once laws (run file bag) = λ table is_table. runs_once laws table is_table as_lines
each_once laws (run_table file) = λ table is_table. runs_once laws table is_table as_lines
each_once laws (run_json file bag) = λ table is_table. runs_once laws table is_table as_json
each_once laws (evolve old new bag) = tt
each_once laws (why file bag step path) = λ table is_table. explains_once laws table is_table step path
each_once laws (verify file bag name) = λ table text is_table. once (Within (VerifiesLines table text)) (checks_one laws table is_table text)

plan_refused_one : Laws → (way : Plan) → PlanOnce way → (files : Option Holding) (input : List ℕ) (a b : Outcome) → OneRefused a b → PlanGives way files input a → PlanGives way files input b → a ≡ b
plan_refused_one laws (of_nothing made) one files input a b refused f g = absurd f
plan_refused_one laws (of_input gives) one files input a b refused f g = one input a b refused f g
plan_refused_one laws (of_table origin text) one files input a b refused f g = absurd f
plan_refused_one laws (of_tables old new gives) one files input a b refused f g = absurd f
plan_refused_one laws (under_table origin gives) one files input a b refused (held, told, table, is, gave) (other, same, found, known, given) =
    one table (laws.tables.is_table origin held table is) input a b refused gave
    (subst (λ t. Within (gives t) input b) (same_table laws.tables origin files held other table found told is same known) given)
plan_refused_one laws (under_both origin file gives) one files input a b refused (held, told, table, text, is, holds, gave) (other, same, found, another, known, also, given) =
    one table text (laws.tables.is_table origin held table is) input a b refused gave
    (subst (λ c. Within (gives table c) input b) (same_file file files held other text another told holds.0 same also.0)
    (subst (λ t. Within (gives t another) input b) (same_table laws.tables origin files held other table found told is same known) given))

-- An input that is refused comes to that alone.
pub input_refused_one : Laws → (task : Task) (files : Option Holding) (input : List ℕ) (a b : Outcome) → OneRefused a b → InputGives task files input a → InputGives task files input b → a ≡ b
input_refused_one laws task files input a b refused f g = plan_refused_one laws (plan task) (each_once laws task) files input a b refused f g
