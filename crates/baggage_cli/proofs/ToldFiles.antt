-- What is true of the files that a library says it holds, and what it was asked for.
use Rattle.std.proofs.Common.{◌≡◌, inl, inr, ℕ, ◌<◌, ◌≤◌, List, [], ◌∷◌, ◌++◌, length, Option, Some, None, IfSome, Result, Ok, Err, refl, sym, ◌∙◌, ap, subst, append_assoc, arith}
use Rattle.outside.specs.Causes.{Rose}
use Rattle.outside.specs.Transfers.{Asked, Asks}
use Rattle.bag_model.specs.Shapes.{Nodes}
use Rattle.bdl_lexer.specs.declared.TheConstants.{SOURCE_MAX}
use Rattle.bdl_load.specs.Loading.{Holding, OfLibrary}
use Rattle.text_lines.specs.Lines.{Line}
use Rattle.baggage_cli.specs.declared.refusals.Refusal.{Refusal}
use Rattle.baggage_cli.specs.Laws.{Laws}
use Rattle.baggage_cli.specs.Outcomes.{Outcome}
use Rattle.baggage_cli.specs.Plans.{Plan, of_nothing, of_input, of_table, under_table, of_tables, under_both, PlanGives, PlanRefuses, PlanAsks}
use Rattle.baggage_cli.specs.Scene.{Change, Halfway, until, since, Scene}
use Rattle.baggage_cli.specs.Tables.{Origin, IsUntaken, FileGives, TableGives, AsksForTable, Obtains}
use Rattle.baggage_cli.proofs.Obtained.{CameFrom, no_ok, obtained_table}

-- The library was asked for all that the plan asks for, in order, and for nothing else.
abbrev pub AskedAll : Holding → Plan → Scene → Type 0
AskedAll held way scene = (names : List (List ℕ)) × PlanAsks held way names × Asks names scene.requests.before scene.requests.after

-- It is true of the files that the library holds, where it says them, and it was asked for all that
-- the plan asks for.
abbrev pub OfFiles : Scene → Plan → (Holding → Type 0) → Type 0
OfFiles scene way Holds = (held : Holding) → scene.library.before ≡ Some held → Holds held × AskedAll held way scene

-- What files give by themselves.
abbrev pub FilesGive : Plan → Holding → List ℕ → Type 0
FilesGive (of_input gives) held output = ⊥
FilesGive (of_nothing made) held output = ⊥
FilesGive (of_table origin text) held output = (table : Nodes) × TableGives origin held (Ok table) × (output ≡ text table)
FilesGive (under_table origin gives) held output = ⊥
FilesGive (under_both origin file gives) held output = ⊥
FilesGive (of_tables old new gives) held output =
    (before : Nodes) × (after : Nodes) × (TableGives old held (Ok before) × TableGives new held (Ok after)) × gives before after output

-- ---- one use of the library

-- What came of the files of a library came of those that it says it holds.
pub came_told : (origin : Origin) (library : Change Holding) (requests : Change (List (List ℕ))) (Holds : Holding → Type 0) (held : Holding) → library.before ≡ Some held
    → CameFrom origin library requests Holds → Holds held × ((names : List (List ℕ)) × AsksForTable held origin names × Asks names requests.before requests.after)
came_told origin library requests Holds held told (files, names, tells, asked, (found, all)) =
    let files_are : held ≡ files = subst (λ before. IfSome before (λ t. t ≡ files)) told tells in
    (subst Holds (sym files_are) found, (names, subst (λ h. AsksForTable h origin names) (sym files_are) all, asked))

-- What came of a file came of the one that the library says it holds.
file_told : (file : List ℕ) (library : Change Holding) (requests : Change (List (List ℕ))) (Holds : Holding → Type 0) (held : Holding) → library.before ≡ Some held
    → OfLibrary library.before requests.before requests.after (λ h names. Holds h × (names ≡ file ∷ [])) → Holds held × Asks (file ∷ []) requests.before requests.after
file_told file library requests Holds held told (files, names, tells, asked, (found, all)) =
    let files_are : held ≡ files = subst (λ before. IfSome before (λ t. t ≡ files)) told tells in
    (subst Holds (sym files_are) found, subst (λ ns. Asks ns requests.before requests.after) all asked)

-- ---- two uses of the library

asks_then : (a b : List (List ℕ)) (before between after : Asked) → Asks a before between → Asks b between after → Asks (a ++ b) before after
asks_then a b before between None f g = tt
asks_then a b before None (Some kept) f g = absurd (cc g)
asks_then a b None (Some middle) (Some kept) f g = absurd (cc f)
asks_then a b (Some earlier) (Some middle) (Some kept) f g =
    let first : earlier ++ a ≡ middle = cc f in
    let second : middle ++ b ≡ kept = cc g in
    ap Some (sym (append_assoc earlier a b) ∙ ap (λ names. names ++ b) first ∙ second)

-- A count that rose after a part in which it didn't fall has risen.
pub rose_behind : (before half after : ℕ) → before ≤ half → Rose half after → Rose before after
rose_behind before half after counts rose = omega (arith, counts, rose)

-- The first of two tables is refused, and so the second isn't asked for.
pub first_refused : (old new : Origin) (gives : Nodes → Nodes → List ℕ → Type 0) (scene : Scene) (refusal : Refusal) → CameFrom old scene.library scene.requests (λ held. TableGives old held (Err refusal))
    → OfFiles scene (of_tables old new gives) (λ held. PlanRefuses (of_tables old new gives) held refusal)
first_refused old new gives scene refusal came = λ held told.
    let (bad, (names, all, asked)) = came_told old scene.library scene.requests (λ h. TableGives old h (Err refusal)) held told came in
    (inl bad, (names, inl (refusal, bad, all), asked))

module _ (old new : Origin) (gives : Nodes → Nodes → List ℕ → Type 0) (scene : Scene) (half : Halfway) (before : Nodes)
    (taken : Obtains old (until half.files half.faults scene.library) (until half.asked half.faults scene.requests) (Ok before)) where
  -- One table is given, and this comes of the files that the second is taken from.
  second_came : (outcome : Result Nodes Refusal) → CameFrom new (since half.files half.faults scene.library) (since half.asked half.faults scene.requests) (λ held. TableGives new held outcome)
      → OfFiles scene (of_tables old new gives) (λ held. TableGives old held (Ok before) × TableGives new held outcome)
  second_came outcome came = λ held told.
      let one = until half.files half.faults scene.library in
      let two = since half.files half.faults scene.library in
      let (is, (front, needed, asked)) = came_told old one (until half.asked half.faults scene.requests) (λ h. TableGives old h (Ok before)) held told (obtained_table old one (until half.asked half.faults scene.requests) before taken) in
      let (gave, (rest, wanted, more)) = came_told new two (since half.asked half.faults scene.requests) (λ h. TableGives new h outcome) held (taken.0 ∙ told) came in
      ((is, gave), (front ++ rest, inr (before, front, rest, is, needed, wanted, refl), asks_then front rest scene.requests.before half.asked scene.requests.after asked more))

  -- The second is refused.
  pub second_refused : (refusal : Refusal) → CameFrom new (since half.files half.faults scene.library) (since half.asked half.faults scene.requests) (λ held. TableGives new held (Err refusal))
      → OfFiles scene (of_tables old new gives) (λ held. PlanRefuses (of_tables old new gives) held refusal)
  second_refused refusal came = λ held told.
      let ((is, bad), all) = second_came (Err refusal) came held told in
      (inr (before, is, bad), all)

  -- Both are given, and give this.
  pub both_compared : (after : Nodes) (line : List ℕ) → CameFrom new (since half.files half.faults scene.library) (since half.asked half.faults scene.requests) (λ held. TableGives new held (Ok after))
      → gives before after line → OfFiles scene (of_tables old new gives) (λ held. FilesGive (of_tables old new gives) held line)
  both_compared after line came right = λ held told.
      let (given, all) = second_came (Ok after) came held told in
      ((before, after, given, right), all)

-- A table is refused, and so the certificate isn't asked for.
pub table_refused : (origin : Origin) (file : List ℕ) (gives : Nodes → List ℕ → List Line → Outcome → Type 0) (scene : Scene) (refusal : Refusal) → CameFrom origin scene.library scene.requests (λ held. TableGives origin held (Err refusal))
    → OfFiles scene (under_both origin file gives) (λ held. PlanRefuses (under_both origin file gives) held refusal)
table_refused origin file gives scene refusal came = λ held told.
    let (bad, (names, all, asked)) = came_told origin scene.library scene.requests (λ h. TableGives origin h (Err refusal)) held told came in
    (inl bad, (names, inl (refusal, bad, all), asked))

module _ (origin : Origin) (file : List ℕ) (gives : Nodes → List ℕ → List Line → Outcome → Type 0) (scene : Scene) (half : Halfway) (table : Nodes)
    (taken : Obtains origin (until half.files half.faults scene.library) (until half.asked half.faults scene.requests) (Ok table)) where
  -- The table is given, and this comes of the file after it.
  file_came : (outcome : Outcome) → OfLibrary half.files half.asked scene.requests.after (λ held names. FileGives file (held file) outcome × (names ≡ file ∷ []))
      → OfFiles scene (under_both origin file gives) (λ held. TableGives origin held (Ok table) × FileGives file (held file) outcome)
  file_came outcome came = λ held told.
      let one = until half.files half.faults scene.library in
      let two = since half.files half.faults scene.library in
      let (is, (front, needed, asked)) = came_told origin one (until half.asked half.faults scene.requests) (λ h. TableGives origin h (Ok table)) held told (obtained_table origin one (until half.asked half.faults scene.requests) table taken) in
      let (gave, more) = file_told file two (since half.asked half.faults scene.requests) (λ h. FileGives file (h file) outcome) held (taken.0 ∙ told) came in
      ((is, gave), (front ++ file ∷ [], inr (table, front, is, needed, refl), asks_then front (file ∷ []) scene.requests.before half.asked scene.requests.after asked more))

  -- The file is refused.
  pub file_refused : (refusal : Refusal) → OfLibrary half.files half.asked scene.requests.after (λ held names. FileGives file (held file) (Err refusal) × (names ≡ file ∷ []))
      → OfFiles scene (under_both origin file gives) (λ held. PlanRefuses (under_both origin file gives) held refusal)
  file_refused refusal came = λ held told.
      let ((is, bad), all) = file_came (Err refusal) came held told in
      (inr (table, is, bad), all)

  -- The file is given.
  pub file_given : (text : List ℕ) → OfLibrary half.files half.asked scene.requests.after (λ held names. FileGives file (held file) (Ok text) × (names ≡ file ∷ []))
      → OfFiles scene (under_both origin file gives) (λ held. TableGives origin held (Ok table) × FileGives file (held file) (Ok text))
  file_given text came = file_came (Ok text) came

-- ---- one answer of files

-- A file isn't taken for one reason, and one that is taken for none.
one_untaken : (file : List ℕ) (content : Option (List ℕ)) (r s : Refusal) → IsUntaken file content r → IsUntaken file content s → r ≡ s
one_untaken file None r s bad also = bad ∙ sym also
one_untaken file (Some text) r s bad also = bad.1 ∙ sym also.1

taken_or_not : (file : List ℕ) (content : Option (List ℕ)) (text : List ℕ) (refusal : Refusal) → FileGives file content (Ok text) → IsUntaken file content refusal → ⊥
taken_or_not file None text refusal (is, short) bad = cc is
taken_or_not file (Some other) text refusal (is, short) bad =
    let same : other ≡ text = cc is in
    let long : SOURCE_MAX < length text = subst (λ t. SOURCE_MAX < length t) same bad.0 in
    omega (arith, long, short)

err_same : (r s : Refusal) → ◌≡◌ {A = Result Nodes Refusal} (Err r) (Err s) → r ≡ s
err_same r s e = cc e

-- Where files give a table they give no refusal.
not_both : Laws → (origin : Origin) (held : Holding) (table : Nodes) (refusal : Refusal) → TableGives origin held (Ok table) → TableGives origin held (Err refusal) → ⊥
not_both laws origin held table refusal gave bad = no_ok table refusal (laws.tables.gives_one origin held (Ok table) (Err refusal) gave bad)

one_refusal : Laws → (origin : Origin) (held : Holding) (r s : Refusal) → TableGives origin held (Err r) → TableGives origin held (Err s) → r ≡ s
one_refusal laws origin held r s bad also = err_same r s (laws.tables.gives_one origin held (Err r) (Err s) bad also)

-- Files are refused for one thing.
pub refused_once : Laws → (way : Plan) (held : Holding) (r s : Refusal) → PlanRefuses way held r → PlanRefuses way held s → r ≡ s
refused_once laws (of_input gives) held r s bad also = absurd bad
refused_once laws (of_nothing made) held r s bad also = absurd bad
refused_once laws (of_table origin text) held r s bad also = one_refusal laws origin held r s bad also
refused_once laws (under_table origin gives) held r s bad also = one_refusal laws origin held r s bad also
refused_once laws (of_tables old new gives) held r s (inl bad) (inl also) = one_refusal laws old held r s bad also
refused_once laws (of_tables old new gives) held r s (inl bad) (inr (table, is, also)) = absurd (not_both laws old held table r is bad)
refused_once laws (of_tables old new gives) held r s (inr (table, is, bad)) (inl also) = absurd (not_both laws old held table s is also)
refused_once laws (of_tables old new gives) held r s (inr (table, is, bad)) (inr (other, gave, also)) = one_refusal laws new held r s bad also
refused_once laws (under_both origin file gives) held r s (inl bad) (inl also) = one_refusal laws origin held r s bad also
refused_once laws (under_both origin file gives) held r s (inl bad) (inr (table, is, also)) = absurd (not_both laws origin held table r is bad)
refused_once laws (under_both origin file gives) held r s (inr (table, is, bad)) (inl also) = absurd (not_both laws origin held table s is also)
refused_once laws (under_both origin file gives) held r s (inr (table, is, bad)) (inr (other, gave, also)) = one_untaken file (held file) r s bad also

-- Files that give something aren't refused.
pub given_not_refused : Laws → (way : Plan) (held : Holding) (output : List ℕ) (refusal : Refusal) → FilesGive way held output → PlanRefuses way held refusal → ⊥
given_not_refused laws (of_input gives) held output refusal gave bad = bad
given_not_refused laws (of_nothing made) held output refusal gave bad = bad
given_not_refused laws (of_table origin text) held output refusal (table, is, made) bad = not_both laws origin held table refusal is bad
given_not_refused laws (under_table origin gives) held output refusal gave bad = gave
given_not_refused laws (under_both origin file gives) held output refusal gave bad = gave
given_not_refused laws (of_tables old new gives) held output refusal (before, after, (is, also), right) (inl bad) = not_both laws old held before refusal is bad
given_not_refused laws (of_tables old new gives) held output refusal (before, after, (is, also), right) (inr (table, gave, bad)) = not_both laws new held after refusal also bad

-- A table and a certificate that are given aren't refused.
both_not_refused : Laws → (origin : Origin) (file : List ℕ) (gives : Nodes → List ℕ → List Line → Outcome → Type 0) (held : Holding) (table : Nodes) (text : List ℕ) (refusal : Refusal)
    → TableGives origin held (Ok table) → FileGives file (held file) (Ok text) → PlanRefuses (under_both origin file gives) held refusal → ⊥
both_not_refused laws origin file gives held table text refusal is gave (inl bad) = not_both laws origin held table refusal is bad
both_not_refused laws origin file gives held table text refusal is gave (inr (other, also, bad)) = taken_or_not file (held file) text refusal gave bad

-- An input gives nothing under a table that is refused, or for a certificate that is.
pub no_table_given : Laws → (way : Plan) (held : Holding) (refusal : Refusal) (files : Option Holding) (input : List ℕ) (outcome : Outcome)
    → files ≡ Some held → PlanRefuses way held refusal → PlanGives way files input outcome → ⊥
no_table_given laws (of_input gives) held refusal files input outcome told bad gave = bad
no_table_given laws (of_nothing made) held refusal files input outcome told bad gave = bad
no_table_given laws (of_table origin text) held refusal files input outcome told bad gave = gave
no_table_given laws (under_table origin gives) held refusal files input outcome told bad (other, tells, table, is, gave) =
    let same : held ≡ other = cc (told, tells) in
    not_both laws origin other table refusal is (subst (λ h. TableGives origin h (Err refusal)) same bad)
no_table_given laws (of_tables old new gives) held refusal files input outcome told bad gave = gave
no_table_given laws (under_both origin file gives) held refusal files input outcome told bad (other, tells, table, text, is, holds, gave) =
    let same : held ≡ other = cc (told, tells) in
    both_not_refused laws origin file gives other table text refusal is holds (subst (λ h. PlanRefuses (under_both origin file gives) h refusal) same bad)
