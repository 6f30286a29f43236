-- A certificate has one verdict.
use Rattle.std.proofs.Common.{◌≡◌, ◌⊎◌, inl, inr, ℕ, suc, ◌<◌, ◌≤◌, List, length, Some, refl, sym, ap, ◌∙◌, subst, arith}
use Rattle.std.specs.List.{slice_get}
use Rattle.std.proofs.lemmas.Bool.{cases_lt}
use Rattle.bag_model.specs.Shapes.{Nodes}
use Rattle.bag_model.specs.Slots.{SlotAt, slots_of, FindsSlot}
use Rattle.bag_model.specs.Tables.{IsTable}
use Rattle.bag_model.proofs.NamePathLaws.{name_paths_differ}
use Rattle.text_lines.specs.Readings.{IsDefinite, IsFirstBad, IsFirstOf, NoneOf}
use Rattle.text_lines.proofs.ReadingLaws.{first_of_one, first_of_none, all_say_one, first_bad_one, good_not_bad}
use Rattle.trace_model.specs.Graphs.{Graph}
use Rattle.write_proof.specs.declared.verdicts.VerifyCode.{VerifyCode}
use Rattle.write_proof.specs.declared.verdicts.Verified.{Verified}
use Rattle.write_proof.specs.declared.verdicts.Verified.TheVariants.{Yes, No}
use Rattle.write_proof.specs.Entries.{Entry, Why, lines_in}
use Rattle.write_proof.specs.LineRules.{BreaksAlone, rules_alone, IsGoodEntry, IsBadEntryLine, certificate_lines}
use Rattle.write_proof.specs.WholeRules.{AppliesSomewhere, IsFirstLine, rules_over_all}
use Rattle.write_proof.specs.Verdicts.{SaysAll, IsAbout, IsCertificateRead, IsCutShort, IsAccepted, IsRejected, IsVerdictOf, VerdictsAreOne}
use Rattle.write_proof.proofs.Forms.{one_form}

-- ---- lines

module _ (table : Nodes) (graph : Graph) where
  one_fault : (earlier : List Entry) (text : List ℕ) (f g : VerifyCode) → IsBadEntryLine table graph earlier text f → IsBadEntryLine table graph earlier text g → f ≡ g
  one_fault earlier text f g (inl p) (inl q) = p.1 ∙ sym q.1
  one_fault earlier text f g (inl p) (inr q) = absurd (p.0 q.0 q.1 q.2)
  one_fault earlier text f g (inr p) (inl q) = absurd (q.0 p.0 p.1 p.2)
  one_fault earlier text f g (inr p) (inr q) =
      let same : q.0 ≡ p.0 = one_form text q.0 p.0 q.1 p.1 in
      first_of_one (BreaksAlone table graph earlier p.0) rules_alone f g p.3 (subst (λ e. IsFirstOf (BreaksAlone table graph earlier e) rules_alone g) same q.3)

  not_both : (earlier : List Entry) (text : List ℕ) (said : Entry) (fault : VerifyCode) → IsGoodEntry table graph earlier text said → IsBadEntryLine table graph earlier text fault → ⊥
  not_both earlier text said fault good (inl p) = p.0 said good.0 good.1
  not_both earlier text said fault good (inr p) =
      let same : p.0 ≡ said = one_form text p.0 said p.1 good.0 in
      first_of_none (BreaksAlone table graph earlier said) rules_alone fault good.2 (subst (λ e. IsFirstOf (BreaksAlone table graph earlier e) rules_alone fault) same p.3)

  -- A line says one entry or has one fault, never both.
  pub definite : IsDefinite (certificate_lines table graph)
  definite = record {
    one_said = λ earlier text a b p q. one_form text a b p.0 q.0;
    one_fault = one_fault;
    not_both = not_both;
  }

-- ---- what is read

some_why : (n m : ℕ) (path way : List ℕ) → Some (Why n path) ≡ Some (Why m way) → path ≡ way
some_why n m path way e = cc e

some_slot : (a b : SlotAt) → Some a ≡ Some b → a ≡ b
some_slot a b e = cc e

module _ (table : Nodes) (graph : Graph) (certificate : List ℕ) (is_table : IsTable table) where
  one_reading : (said others : List Entry) → SaysAll table graph certificate said → SaysAll table graph certificate others → said ≡ others
  one_reading said others p q = all_say_one (certificate_lines table graph) (definite table graph) (lines_in certificate) said others p q

  one_slot : (said : List Entry) (slot other : ℕ) (at there : SlotAt) → IsAbout table said slot at → IsAbout table said other there → (slot ≡ other) × (at ≡ there)
  one_slot said slot other at there a b = (same, some_slot at there (sym a.4 ∙ ap (slice_get (slots_of table)) same ∙ b.4))
    where
      way : a.1 ≡ b.1
      way = some_why a.0 b.0 a.1 b.1 (sym a.2 ∙ b.2)

      same : slot ≡ other
      same = by a.3 b.3
        where
          by : FindsSlot table a.1 (Some slot) → FindsSlot table b.1 (Some other) → slot ≡ other
          by f g = name_paths_differ table slot other f.0 g.0 is_table f.1 g.1 (f.2 ∙ way ∙ sym g.2)

  -- what holds of what is read holds of it as it is read again
  read_again : (F : List Entry → ℕ → SlotAt → Type 0) (said others : List Entry) (slot other : ℕ) (at there : SlotAt) → IsCertificateRead table graph certificate said slot at → IsCertificateRead table graph certificate others other there
      → F said slot at → F others other there
  read_again F said others slot other at there p q f =
      let same : said ≡ others = one_reading said others p.all q.all in
      let own = one_slot others slot other at there (subst (λ l. IsAbout table l slot at) same p.about) q.about in
      subst (λ a. F others other a) own.1 (subst (λ n. F others n at) own.0 (subst (λ l. F l slot at) same f))

  short_length : (line : ℕ) (code : VerifyCode) (said : List Entry) → SaysAll table graph certificate said → 2 ≤ length said → IsCutShort table graph certificate line code → ⊥
  short_length line code said all long short = let same = ap length (one_reading said short.0 all short.1) in let few = short.2 in omega (arith, same, long, few)

  bad_read : (line : ℕ) (code : VerifyCode) (said : List Entry) → SaysAll table graph certificate said → IsFirstBad (certificate_lines table graph) (lines_in certificate) line code → ⊥
  bad_read line code said all bad = good_not_bad (certificate_lines table graph) (definite table graph) (lines_in certificate) said line code all bad

  accepted_not_rejected : (line : ℕ) (code : VerifyCode) → IsAccepted table graph certificate → IsRejected table graph certificate line code → ⊥
  accepted_not_rejected line code a r =
      first_of_none (AppliesSomewhere graph r.1 r.2 r.0) rules_over_all code
      (read_again (λ said slot at. NoneOf (AppliesSomewhere graph slot at said) rules_over_all) a.0 r.0 a.1 r.1 a.2 r.2 a.3 r.3 a.4) r.4

  not_refused : (line : ℕ) (code : VerifyCode) → IsAccepted table graph certificate → IsVerdictOf table graph certificate (No line code) → ⊥
  not_refused line code a (inl bad) = bad_read line code a.0 (a.3).all bad
  not_refused line code a (inr (inl short)) = short_length line code a.0 (a.3).all (a.3).enough short
  not_refused line code a (inr (inr r)) = accepted_not_rejected line code a r

  first_places : (slot : ℕ) (at : SlotAt) (said : List Entry) (code : VerifyCode) (m n : ℕ) → IsFirstLine graph slot at said code m → IsFirstLine graph slot at said code n → m ≡ n
  first_places slot at said code m n p q = by (cases_lt p.place q.place) (cases_lt q.place p.place)
    where
      by : (p.place < q.place) ⊎ (q.place ≤ p.place) → (q.place < p.place) ⊎ (p.place ≤ q.place) → m ≡ n
      by (inl less) t = absurd (q.first p.place less p.applies)
      by (inr more) (inl less) = absurd (p.first q.place less q.applies)
      by (inr more) (inr other) = omega (arith, p.number, q.number, more, other)

  one_rejection : (m n : ℕ) (f g : VerifyCode) → IsRejected table graph certificate m f → IsRejected table graph certificate n g → (m ≡ n) × (f ≡ g)
  one_rejection m n f g p q =
      let first = read_again (λ said slot at. IsFirstOf (AppliesSomewhere graph slot at said) rules_over_all f) p.0 q.0 p.1 q.1 p.2 q.2 p.3 q.3 p.4 in
      let line = read_again (λ said slot at. IsFirstLine graph slot at said f m) p.0 q.0 p.1 q.1 p.2 q.2 p.3 q.3 p.5 in
      let code : f ≡ g = first_of_one (AppliesSomewhere graph q.1 q.2 q.0) rules_over_all f g first q.4 in
      (first_places q.1 q.2 q.0 g m n (subst (λ c. IsFirstLine graph q.1 q.2 q.0 c m) code line) q.5, code)

  one_no : (m n : ℕ) (f g : VerifyCode) → IsVerdictOf table graph certificate (No m f) → IsVerdictOf table graph certificate (No n g) → (m ≡ n) × (f ≡ g)
  one_no m n f g (inl p) (inl q) = first_bad_one (certificate_lines table graph) (definite table graph) (lines_in certificate) m n f g p q
  one_no m n f g (inl p) (inr (inl q)) = absurd (bad_read m f q.0 q.1 p)
  one_no m n f g (inl p) (inr (inr q)) = absurd (bad_read m f q.0 (q.3).all p)
  one_no m n f g (inr (inl p)) (inl q) = absurd (bad_read n g p.0 p.1 q)
  one_no m n f g (inr (inl p)) (inr (inl q)) = (p.3 ∙ ap (λ l. suc (length l)) (one_reading p.0 q.0 p.1 q.1) ∙ sym q.3, p.4 ∙ sym q.4)
  one_no m n f g (inr (inl p)) (inr (inr q)) = absurd (short_length m f q.0 (q.3).all (q.3).enough p)
  one_no m n f g (inr (inr p)) (inl q) = absurd (bad_read n g p.0 (p.3).all q)
  one_no m n f g (inr (inr p)) (inr (inl q)) = absurd (short_length n g p.0 (p.3).all (p.3).enough q)
  one_no m n f g (inr (inr p)) (inr (inr q)) = one_rejection m n f g p q

  one_verdict : (a b : Verified) → IsVerdictOf table graph certificate a → IsVerdictOf table graph certificate b → a ≡ b
  one_verdict Yes Yes p q = refl
  one_verdict Yes (No n g) p q = absurd (not_refused n g p q)
  one_verdict (No m f) Yes p q = absurd (not_refused m f q p)
  one_verdict (No m f) (No n g) p q = let same = one_no m n f g p q in λ i. No (same.0 i) (same.1 i)

pub verdicts_are_one : VerdictsAreOne
verdicts_are_one table graph certificate a b is_table p q = one_verdict table graph certificate is_table a b p q
