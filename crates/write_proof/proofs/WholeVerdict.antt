-- The verdict by the rules over all lines.
use Rattle.std.proofs.Common.{◌≡◌, ◌≢◌, ◌⊎◌, inl, inr, ℕ, zero, suc, ◌+◌, ◌<◌, ◌≤◌, Bool, true, false, not, List, [], ◌∷◌, ◌++◌, length, map, get_or, Option, Some, None, Result, Ok, Err, IsSome, refl, sym, ap, ◌∙◌, subst, arith}
use Rattle.std.specs.Borrow.{Bor}
use Rattle.std.specs.Prelude.{IfOk}
use Rattle.std.specs.Str.{bytes_eq}
use Rattle.std.specs.List.{slice_get}
use Rattle.std.proofs.lemmas.Bool.{cases_lt}
use Rattle.std.proofs.lemmas.List.{length-map}
use Rattle.std.proofs.lemmas.Slice.Eq.{bytes_eq-Decides}
use Rattle.context_model.specs.Orders.{IsIn}
use Rattle.bag_model.specs.Shapes.{Nodes}
use Rattle.bag_model.specs.Slots.{SlotAt, FindsSlot}
use Rattle.bag_model.specs.SlotValues.{HasSlot}
use Rattle.bag_model.specs.Values.{Value}
use Rattle.bag_model.specs.Tables.{IsTable}
use Rattle.outside.specs.declared.Memory.{Memory}
use Rattle.text_model.specs.ValueTexts.{value_text}
use Rattle.text_lines.specs.Lines.{Line}
use Rattle.text_lines.specs.Readings.{AllSay}
use Rattle.trace_model.specs.Graphs as model
use Rattle.trace_model.specs.Graphs.{Act, Graph, IsGraph, IsOfTable, IsRecorded}
use Rattle.write_proof.specs.declared.verdicts.VerifyCode.{VerifyCode}
use Rattle.write_proof.specs.declared.verdicts.VerifyCode.TheVariants as codes
use Rattle.write_proof.specs.declared.verdicts.Verified.{Verified}
use Rattle.write_proof.specs.declared.verdicts.Verified.TheVariants.{Yes, No}
use Rattle.write_proof.specs.declared.entries.Entry as kinds
use Rattle.write_proof.specs.declared.entries.Entry.TheVariants as variants
use Rattle.write_proof.specs.Checker.{BeginWith}
use Rattle.write_proof.specs.FirstLines.{FindsLine}
use Rattle.write_proof.specs.Entries.{Entry, Why, ValueText, Reach, Uses, lines_in}
use Rattle.write_proof.specs.LineRules.{last_of, HasParent, BringsValues, IsWriteStep, MayFollow, certificate_lines}
use Rattle.write_proof.specs.WholeRules.{reached, used, IsJoinOfUsed, Applies, AppliesSomewhere, IsFirstLine}
use Rattle.write_proof.specs.Verdicts.{SaysAll, IsCertificateRead, IsVerdictOf, TellsTruth}
use Rattle.write_proof.specs.Views.{entry_of}
use Rattle.write_proof.proofs.BelowCalls.{place_within}
use Rattle.write_proof.proofs.MarkCalls.{first_entry}
use Rattle.write_proof.proofs.Contributing.{join_one}
use Rattle.write_proof.proofs.Decided.{surely}
use Rattle.write_proof.proofs.Said.{parent_or_not, reached_at, used_at, said_at, begins}
use Rattle.write_proof.proofs.Sound.{accepted_tells_truth}

-- ---- decided

brings_or_not : (act : Act) → BringsValues act ⊎ (BringsValues act → ⊥)
brings_or_not model.Act.Start = inr (λ b. b)
brings_or_not (model.Act.Recv received) = inl tt
brings_or_not (model.Act.Set parent slot v) = inl tt
brings_or_not (model.Act.Branch parent) = inr (λ b. b)
brings_or_not (model.Act.Forward parent) = inr (λ b. b)
brings_or_not (model.Act.Trim parent budget) = inr (λ b. b)
brings_or_not (model.Act.Join parents) = inr (λ b. b)

some_step : (a b : model.Step) → Some a ≡ Some b → a ≡ b
some_step a b e = cc e

write_or_not : (graph : Graph) (w : ℕ) → IsWriteStep graph w ⊎ (IsWriteStep graph w → ⊥)
write_or_not graph w = by (slice_get graph.steps w) refl
  where
    by : (found : Option model.Step) → slice_get graph.steps w ≡ found → IsWriteStep graph w ⊎ (IsWriteStep graph w → ⊥)
    by None e = inr (λ p. let clash : None ≡ Some p.0 = sym e ∙ p.1 in cc)
    by (Some step) e = elim (brings_or_not step.act) [
      | inl b ↦ inl (step, e, b)
      | inr n ↦ inr (λ p. n (subst (λ (s : model.Step). BringsValues s.act) (some_step p.0 step (sym p.1 ∙ e)) p.2))
    ]

-- ---- what good lines say

module _ (table : Nodes) (graph : Graph) (certificate : List ℕ) (said : List Entry) (all : SaysAll table graph certificate said) where
  pub reached_within : IsGraph graph → (w : ℕ) → IsIn w (reached said) → w < length graph.steps
  reached_within sound w i =
      let s = reached_at said w i in
      let g = said_at table graph [] (lines_in certificate) said all s.0 (Reach w s.1) s.2 in
      let p : HasParent graph s.1 w = surely (parent_or_not graph s.1 w) ((((((g.2).2).1).1).1).0) in
      let l = place_within p.0 graph.steps s.1 p.1 in
      let e = sound.earlier s.1 w p.0 p.1 p.2 in
      omega (arith, l, e)

  pub used_within : (w : ℕ) → IsIn w (used said) → w < length graph.steps
  used_within w i =
      let s = used_at said w i in
      let g = said_at table graph [] (lines_in certificate) said all s.0 (Uses w) s.1 in
      let p : IsWriteStep graph w = surely (write_or_not graph w) (((((((g.2).2).1).1).1).1).0) in
      place_within p.0 graph.steps w p.1

  pub path_known : (path text : List ℕ) → BeginWith said path text → FindsSlot table path None → ⊥
  path_known path text b =
      let g = said_at table graph [] (lines_in certificate) said all 0 (Why b.0 path) (ap (λ l. slice_get l 0) b.2) in
      ((((g.2).2).1).0)

  pub read_of : (path text : List ℕ) (slot : ℕ) → BeginWith said path text → FindsSlot table path (Some slot) → (at : SlotAt) × IsCertificateRead table graph certificate said slot at
  read_of path text slot b f = (
    f.0,
    record {
      all = all;
      enough = let long = ap length b.2 in omega (arith, long);
      about = (b.0, path, ap (λ l. slice_get l 0) b.2, f, f.1);
    },
  )

  -- Where they don't begin as they should they are too few.
  pub few : ((path text : List ℕ) → BeginWith said path text → ⊥) → length said < 2
  few none = by (cases_lt (length said) 2)
    where
      by : (length said < 2) ⊎ (2 ≤ length said) → length said < 2
      by (inl less) = less
      by (inr more) = let b = begins table graph (lines_in certificate) said all more in absurd (none b.path b.text (b.n, b.more, b.is))

pub slot_found : (table : Nodes) (path : List ℕ) (found : Option ℕ) → FindsSlot table path found → (FindsSlot table path None → ⊥) → IsSome found
slot_found table path None f none = absurd (none f)
slot_found table path (Some slot) f none = refl

-- ---- the text of the value is the second line alone

-- No text of a value may follow this one.
abbrev IsLate : Option Entry → Type 0
IsLate None = ⊥
IsLate (Some (Why n path)) = ⊥
IsLate (Some (ValueText text)) = Unit {0}
IsLate (Some (Reach w child)) = Unit {0}
IsLate (Some (Uses w)) = Unit {0}

last_added : (earlier : List Entry) (entry : Entry) → last_of (earlier ++ entry ∷ []) ≡ Some entry
last_added [] entry = refl
last_added (a ∷ []) entry = refl
last_added (a ∷ b ∷ earlier) entry = last_added (b ∷ earlier) entry

late_more : (last : Option Entry) (entry : Entry) → IsLate last → MayFollow last entry → IsLate (Some entry)
late_more None entry late may = absurd late
late_more (Some last) (ValueText text) late may = tt
late_more (Some last) (Reach w child) late may = tt
late_more (Some last) (Uses w) late may = tt
late_more (Some (Why m way)) (Why n path) late may = absurd late
late_more (Some (ValueText text)) (Why n path) late may = absurd may
late_more (Some (Reach w child)) (Why n path) late may = absurd may
late_more (Some (Uses w)) (Why n path) late may = absurd may

no_text : (last : Option Entry) (text : List ℕ) → IsLate last → MayFollow last (ValueText text) → ⊥
no_text None text late may = late
no_text (Some (Why n path)) text late may = late
no_text (Some (ValueText before)) text late may = may
no_text (Some (Reach w child)) text late may = may
no_text (Some (Uses w)) text late may = may

module _ (table : Nodes) (graph : Graph) where
  later_no_text : (earlier : List Entry) (lines : List Line) (said : List Entry) → AllSay (certificate_lines table graph) earlier lines said → IsLate (last_of earlier)
      → (k : ℕ) (text : List ℕ) → slice_get said k ≡ Some (ValueText text) → ⊥
  later_no_text earlier [] [] all late k text e = cc e
  later_no_text earlier [] (a ∷ said) all late k text e = all
  later_no_text earlier (line ∷ lines) [] all late k text e = cc e
  later_no_text earlier (line ∷ lines) (a ∷ said) all late zero text e =
      let same : a ≡ ValueText text = cc e in
      no_text (last_of earlier) text late (subst (MayFollow (last_of earlier)) same (all.0).1)
  later_no_text earlier (line ∷ lines) (a ∷ said) all late (suc k) text e =
      later_no_text (earlier ++ a ∷ []) lines said all.1 (subst IsLate (sym (last_added earlier a)) (late_more (last_of earlier) a late (all.0).1)) k text e

  third_no_text : (lines : List Line) (n : ℕ) (path text : List ℕ) (more : List Entry) → AllSay (certificate_lines table graph) [] lines (Why n path ∷ ValueText text ∷ more)
      → (k : ℕ) (other : List ℕ) → slice_get more k ≡ Some (ValueText other) → ⊥
  third_no_text [] n path text more all k other e = all
  third_no_text (line ∷ []) n path text more all k other e = all.1
  third_no_text (line ∷ next ∷ lines) n path text more all k other e = later_no_text (Why n path ∷ ValueText text ∷ []) lines more (all.1).1 tt k other e

-- ---- verdicts

some_text : (a b : List ℕ) → Some (ValueText a) ≡ Some (ValueText b) → a ≡ b
some_text a b e = cc e

module _ (table : Nodes) (graph : Graph) (certificate : List ℕ) (said : List Entry) (slot : ℕ) (at : SlotAt) (read : IsCertificateRead table graph certificate said slot at) where
  pub has_slot : HasSlot table slot at
  has_slot = (read.about).4

  abbrev pub Somewhere : VerifyCode → Type 0
  Somewhere code = AppliesSomewhere graph slot at said code

  abbrev pub FirstAt : VerifyCode → ℕ → Type 0
  FirstAt code line = IsFirstLine graph slot at said code line

  abbrev pub Verdict : Verified → Type 0
  Verdict verdict = IsVerdictOf table graph certificate verdict

  somewhere : (code : VerifyCode) (line : ℕ) → FirstAt code line → Somewhere code
  somewhere code line f = (f.place, f.applies)

  pub first_rule : (line : ℕ) → FirstAt codes.NotListed line → Verdict (No line codes.NotListed)
  first_rule line f = inr (inr (said, slot, at, read, inl (refl, somewhere codes.NotListed line f), f))

  module _ (not_first : Somewhere codes.NotListed → ⊥) where
    pub second_rule : (line : ℕ) → FirstAt codes.Missing line → Verdict (No line codes.Missing)
    second_rule line f = inr (inr (said, slot, at, read, inr (not_first, inl (refl, somewhere codes.Missing line f)), f))

    module _ (not_second : Somewhere codes.Missing → ⊥) where
      module _ (path text : List ℕ) (begin : BeginWith said path text) (joined : Value) (is_join : IsJoinOfUsed graph slot at said joined) where
        second : slice_get said 1 ≡ Some (ValueText text)
        second = ap (λ l. slice_get l 1) begin.2

        third_line : text ≢ value_text at.shape joined → FirstAt codes.Value 2
        third_line differs = record {
          place = 1;
          number = refl;
          applies = (ValueText text, second, (joined, is_join, differs));
          first = λ other l a. before other l a.0 a.1 a.2;
        }
          where
            before : (other : ℕ) → other < 1 → (entry : Entry) → slice_get said other ≡ Some entry → Applies graph slot at said codes.Value entry → ⊥
            before other l (Why n path) e applies = applies
            before other l (Reach w child) e applies = applies
            before other l (Uses w) e applies = applies
            before other l (ValueText t) e applies =
                let zero_is : other ≡ 0 = omega (arith, l) in
                let clash : Some (Why begin.0 path) ≡ Some (ValueText t) = sym (ap (λ l. slice_get l 0) begin.2) ∙ ap (slice_get said) (sym zero_is) ∙ e in
                cc clash

        pub third_rule : text ≢ value_text at.shape joined → Verdict (No 2 codes.Value)
        third_rule differs =
            let f = third_line differs in
            inr (inr (said, slot, at, read, inr (not_first, inr (not_second, inl (refl, somewhere codes.Value 2 f))), f))

        module _ (same : text ≡ value_text at.shape joined) (is_table : IsTable table) (sound : IsGraph graph) (fits : IsOfTable table graph) where
          recorded : IsRecorded table graph
          recorded = record { table = is_table; sound = sound; fits = fits }

          at_place : (k : ℕ) (entry : Entry) → slice_get (Why begin.0 path ∷ ValueText text ∷ begin.1) k ≡ Some entry → Applies graph slot at said codes.Value entry → ⊥
          at_place k (Why n way) e applies = applies
          at_place k (Reach w child) e applies = applies
          at_place k (Uses w) e applies = applies
          at_place zero (ValueText t) e applies = cc e
          at_place (suc zero) (ValueText t) e applies =
              let one : text ≡ t = some_text text t e in
              let join : joined ≡ applies.0 = join_one table slot at has_slot graph recorded (used said) joined applies.0 is_join applies.1 in
              applies.2 (sym one ∙ same ∙ ap (value_text at.shape) join)
          at_place (suc (suc k)) (ValueText t) e applies =
              third_no_text table graph (lines_in certificate) begin.0 path text begin.1 (subst (λ l. AllSay (certificate_lines table graph) [] (lines_in certificate) l) begin.2 read.all) k t e

          not_third : Somewhere codes.Value → ⊥
          not_third s = at_place s.0 (s.1).0 (ap (λ l. slice_get l s.0) (sym begin.2) ∙ (s.1).1) (s.1).2

          pub fourth_rule : (line : ℕ) → FirstAt codes.TooMuch line → Verdict (No line codes.TooMuch)
          fourth_rule line f = inr (inr (said, slot, at, read, inr (not_first, inr (not_second, inr (not_third, inl (refl, somewhere codes.TooMuch line f)))), f))

          pub no_rule : (Somewhere codes.TooMuch → ⊥) → Verdict Yes
          no_rule not_fourth = (said, slot, at, read, (not_first, (not_second, (not_third, (not_fourth, tt)))))

-- A certificate that is accepted tells the truth.
pub yes_tells_truth : (table : Nodes) (graph : Graph) (certificate : List ℕ) (result : Result Verified Memory) → IsTable table → IsGraph graph → IsOfTable table graph
    → IfOk result (IsVerdictOf table graph certificate) → result ≡ Ok Yes → TellsTruth table graph certificate
yes_tells_truth table graph certificate result is_table sound fits verdict accepted =
    accepted_tells_truth table graph certificate (record { table = is_table; sound = sound; fits = fits }) (subst (λ r. IfOk r (IsVerdictOf table graph certificate)) accepted verdict)

-- ---- how the entries begin

pub do_begin : (entries : List kinds.Entry) (n : ℕ) (path text : Bor (List ℕ)) → 2 ≤ length entries → get_or entries 0 first_entry ≡ variants.Why n path → get_or entries 1 first_entry ≡ variants.Value text
    → BeginWith (map entry_of entries) path.now text.now
do_begin [] n path text long is also = absurd (omega (arith, long))
do_begin (a ∷ []) n path text long is also = absurd (omega (arith, long))
do_begin (a ∷ d ∷ entries) n path text long is also = (n, map entry_of entries, λ i. entry_of (is i) ∷ entry_of (also i) ∷ map entry_of entries)

-- ---- answers of calls

pub none_there : (graph : Graph) (slot : ℕ) (at : SlotAt) (said : List Entry) (code : VerifyCode) (found : Option ℕ) → FindsLine graph slot at said code found → ((line : ℕ) → found ≡ Some line → ⊥) → AppliesSomewhere graph slot at said code → ⊥
none_there graph slot at said code None finds other = finds
none_there graph slot at said code (Some line) finds other = absurd (other line refl)

pub text_differs : (a b : List ℕ) (answer : Bool) → answer ≡ not (bytes_eq a b) → answer ≡ true → a ≢ b
text_differs a b answer is differs e = let bad : true ≡ false = sym differs ∙ is ∙ ap not ((bytes_eq-Decides a b).1 e) in cc bad

not_false : (b : Bool) → not b ≡ false → b ≡ true
not_false true e = refl
not_false false e = absurd (cc e)

pub text_is : (a b : List ℕ) (answer : Bool) → answer ≡ not (bytes_eq a b) → answer ≡ false → a ≡ b
text_is a b answer is same = (bytes_eq-Decides a b).0 (not_false (bytes_eq a b) (sym is ∙ same))

pub verdicts_so : (table : Nodes) (graph : Graph) (said : List Entry) (slot : ℕ) (path text : List ℕ) (result : Result Verified Memory) → BeginWith said path text → FindsSlot table path (Some slot)
    → IfOk result (λ verdict. (certificate : List ℕ) (at : SlotAt) → IsCertificateRead table graph certificate said slot at → IsVerdictOf table graph certificate verdict)
    → IfOk result (λ verdict. (certificate : List ℕ) → SaysAll table graph certificate said → IsVerdictOf table graph certificate verdict)
verdicts_so table graph said slot path text (Ok verdict) b f told = λ certificate all. let r = read_of table graph certificate said all path text slot b f in told certificate r.0 r.1
verdicts_so table graph said slot path text (Err e) b f told = tt

pub cut_short : (table : Nodes) (graph : Graph) (entries : List kinds.Entry) → ((path text : List ℕ) → BeginWith (map entry_of entries) path text → ⊥) → (certificate : List ℕ) → SaysAll table graph certificate (map entry_of entries)
    → IsVerdictOf table graph certificate (No (length entries + 1) codes.Form)
cut_short table graph entries none certificate all =
    inr (inl (map entry_of entries, all, few table graph certificate (map entry_of entries) all none, (let long = length-map entries entry_of in omega (arith, long)), refl))

pub told_here : (table : Nodes) (graph : Graph) (certificate : List ℕ) (said : List Entry) (result : Result Verified Memory) → SaysAll table graph certificate said
    → IfOk result (λ verdict. (certificate : List ℕ) → SaysAll table graph certificate said → IsVerdictOf table graph certificate verdict) → IfOk result (IsVerdictOf table graph certificate)
told_here table graph certificate said (Ok verdict) all told = told certificate all
told_here table graph certificate said (Err e) all told = tt
