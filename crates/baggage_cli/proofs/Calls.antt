-- What holds of every call.
use Rattle.std.proofs.Common.{◌≡◌, ◌≢◌, ◌⊎◌, inl, inr, ℕ, ◌≤◌, List, Option, Some, None, Ok, Err, refl, ◌∙◌, subst, arith}
use Rattle.std.specs.Io.KnownBytes.{Appends}
use Rattle.command_line.specs.Commands.{Task}
use Rattle.baggage_cli.specs.declared.refusals.Notice.{Notice}
use Rattle.baggage_cli.specs.declared.refusals.Notice.TheVariants.{WordsRefused, LibraryFailed, Memory}
use Rattle.baggage_cli.specs.declared.refusals.Refusal.TheVariants.{Plain}
use Rattle.baggage_cli.specs.Delivery.{TellsLine, Delivers}
use Rattle.baggage_cli.specs.Outcomes.{Outcome}
use Rattle.baggage_cli.specs.Plans.{Plan, of_nothing, of_input, of_table, under_table, of_tables, under_both, plan, PlanComes}
use Rattle.baggage_cli.specs.Refusals.{notice_line, status_of}
use Rattle.baggage_cli.specs.Scene.{Change, Scene, IsSame, IsSteady, NeverFell, HasFailed, TakesWhole, TakesPart}
use Rattle.baggage_cli.specs.Top.{Answers}
use Rattle.baggage_cli.proofs.Obtained.{refused_steady, given_steady}
use Rattle.baggage_cli.proofs.Facts.{steady_done, source_steady_task, unread_task, quiet_task, sink_told, never_seven}

-- No count of faults fell.
pub record KeepsCounts (scene : Scene) : Type 0 where
  pub library : NeverFell scene.library
  pub source : NeverFell scene.source
  pub out : NeverFell scene.out
  pub errs : NeverFell scene.errs

-- ---- counts

same_never_fell : {A : Type 0} (c : Change A) → IsSame c → NeverFell c
same_never_fell c same = let e = same.1 in omega arith

takes_never_fell : (c : Change (List ℕ)) (bytes : List ℕ) → TakesWhole c bytes → NeverFell c
takes_never_fell c bytes takes = let e = takes.1 in omega arith

told_never_fell : (status : ℕ) (line : List ℕ) (errs : Change (List ℕ)) (answer : ℕ) → TellsLine status line errs answer → NeverFell errs
told_never_fell status line errs answer (inl told) = takes_never_fell errs line told.1
told_never_fell status line errs answer (inr failed) = failed.1.2

-- The files of the library are as before, and no count of the library and the source fell.
came_kept : (way : Plan) (scene : Scene) (outcome : Outcome) → PlanComes way scene.library scene.requests scene.source outcome
    → (scene.library.after ≡ scene.library.before) × NeverFell scene.library × NeverFell scene.source
came_kept (of_input gives) scene outcome (same, unasked, (counts, why)) = (same.0, same_never_fell scene.library same, counts)
came_kept (of_nothing made) scene outcome (same, unasked, unread, makes) = (same.0, same_never_fell scene.library same, same_never_fell scene.source unread)
came_kept (of_table origin text) scene outcome (unread, inl (refusal, (same, counts, why), begun, is)) = (same, counts, same_never_fell scene.source unread)
came_kept (of_table origin text) scene outcome (unread, inr (table, (same, counts, why), built)) = (same, counts, same_never_fell scene.source unread)
came_kept (under_table origin gives) scene outcome (inl (refusal, (same, counts, why), unread, is)) = (same, counts, same_never_fell scene.source unread)
came_kept (under_table origin gives) scene outcome (inr (table, (same, counts, why), (kept, rest))) = (same, counts, kept)
came_kept (of_tables old new gives) scene outcome (unread, inl (refusal, (same, counts, why), begun, is)) = (same, counts, same_never_fell scene.source unread)
came_kept (of_tables old new gives) scene outcome (unread, inr (half, before, (same, counts, why), inl (refusal, (kept, more, how), begun, is))) =
    (kept ∙ same, omega (arith, counts, more), same_never_fell scene.source unread)
came_kept (of_tables old new gives) scene outcome (unread, inr (half, before, (same, counts, why), inr (after, (kept, more, how), compared))) =
    (kept ∙ same, omega (arith, counts, more), same_never_fell scene.source unread)
came_kept (under_both origin file gives) scene outcome (inl (refusal, (same, counts, why), unread, is)) = (same, counts, same_never_fell scene.source unread)
came_kept (under_both origin file gives) scene outcome (inr (half, table, (same, counts, why), inl (refusal, (kept, more, how), unread, is))) =
    (kept ∙ same, omega (arith, counts, more), same_never_fell scene.source unread)
came_kept (under_both origin file gives) scene outcome (inr (half, table, (same, counts, why), inr (certificate, (kept, more, how), (stays, read)))) =
    (kept ∙ same, omega (arith, counts, more), stays)

-- Unless memory ran out or the library failed, it counted no fault.
came_steady : (way : Plan) (scene : Scene) (outcome : Outcome) → PlanComes way scene.library scene.requests scene.source outcome
    → (outcome ≡ Err (Plain Memory) → ⊥) → (outcome ≡ Err (Plain LibraryFailed) → ⊥) → IsSteady scene.library
came_steady (of_input gives) scene outcome (same, unasked, reads) some sure = same.1
came_steady (of_nothing made) scene outcome (same, unasked, unread, makes) some sure = same.1
came_steady (of_table origin text) scene outcome (unread, inl (refusal, taken, begun, is)) some sure = refused_steady refusal taken.2 outcome is some sure
came_steady (of_table origin text) scene outcome (unread, inr (table, taken, built)) some sure = given_steady table taken.2
came_steady (under_table origin gives) scene outcome (inl (refusal, taken, unread, is)) some sure = refused_steady refusal taken.2 outcome is some sure
came_steady (under_table origin gives) scene outcome (inr (table, taken, rest)) some sure = given_steady table taken.2
came_steady (of_tables old new gives) scene outcome (unread, inl (refusal, taken, begun, is)) some sure = refused_steady refusal taken.2 outcome is some sure
came_steady (of_tables old new gives) scene outcome (unread, inr (half, before, taken, inl (refusal, rest, begun, is))) some sure = refused_steady refusal rest.2 outcome is some sure ∙ given_steady before taken.2
came_steady (of_tables old new gives) scene outcome (unread, inr (half, before, taken, inr (after, rest, compared))) some sure = given_steady after rest.2 ∙ given_steady before taken.2
came_steady (under_both origin file gives) scene outcome (inl (refusal, taken, unread, is)) some sure = refused_steady refusal taken.2 outcome is some sure
came_steady (under_both origin file gives) scene outcome (inr (half, table, taken, inl (refusal, rest, unread, is))) some sure = refused_steady refusal rest.2 outcome is some sure ∙ given_steady table taken.2
came_steady (under_both origin file gives) scene outcome (inr (half, table, taken, inr (certificate, rest, read))) some sure = given_steady certificate rest.2 ∙ given_steady table taken.2

delivered_kept : (outcome : Outcome) (out errs : Change (List ℕ)) (answer : ℕ) → Delivers outcome out errs answer → NeverFell out × NeverFell errs
delivered_kept (Ok output) out errs answer (inl done) = (takes_never_fell out output done.1, same_never_fell errs done.2)
delivered_kept (Ok output) out errs answer (inr (five, part, inl told)) = (part.2, takes_never_fell errs _ told)
delivered_kept (Ok output) out errs answer (inr (five, part, inr failed)) = (part.2, failed.2)
delivered_kept (Err refusal) out errs answer (same, told) = (same_never_fell out same, told_never_fell _ _ errs answer told)

-- The files of the library are as before, whatever the call answers.
pub files_kept : (asked : Option Task) (scene : Scene) (answer : ℕ) → Answers asked scene answer → scene.library.after ≡ scene.library.before
files_kept None scene answer (library, requests, source, out, told) = library.0
files_kept (Some task) scene answer (outcome, comes, delivers) = (came_kept (plan task) scene outcome comes).0

-- No count falls.
pub counts_kept : (asked : Option Task) (scene : Scene) (answer : ℕ) → Answers asked scene answer → KeepsCounts scene
counts_kept None scene answer (library, requests, source, out, told) = record {
  library = same_never_fell scene.library library;
  source = same_never_fell scene.source source;
  out = same_never_fell scene.out out;
  errs = told_never_fell _ _ scene.errs answer told;
}
counts_kept (Some task) scene answer (outcome, comes, delivers) =
    let came = came_kept (plan task) scene outcome comes in
    let kept = delivered_kept outcome scene.out scene.errs answer delivers in
    record { library = came.1; source = came.2; out = kept.0; errs = kept.1 }

-- ---- statuses

-- With status 0 no count of the sinks rose, and nothing was said.
pub steady_call : (asked : Option Task) (scene : Scene) (answer : ℕ) → Answers asked scene answer → answer ≡ 0 → IsSteady scene.out × IsSame scene.errs
steady_call None scene answer (library, requests, source, out, inl told) zero = absurd (let seven = told.0 in omega arith)
steady_call None scene answer (library, requests, source, out, inr failed) zero = absurd (let five = failed.0 in omega arith)
steady_call (Some task) scene answer answers zero = steady_done task scene answer answers zero

-- A refusal that says nothing of the input or its files has a status above 3.
plain_above : (notice : Notice) (out errs : Change (List ℕ)) (answer : ℕ) (outcome : Outcome) → outcome ≡ Err (Plain notice) → Delivers outcome out errs answer → 4 ≤ status_of (Plain notice) → answer ≤ 3 → ⊥
plain_above notice out errs answer outcome is delivers above low = by (subst (λ o. Delivers o out errs answer) is delivers)
  where
    by : Delivers (Err (Plain notice)) out errs answer → ⊥
    by (same, inl told) = let status = told.0 in omega (arith, status, above, low)
    by (same, inr failed) = let five = failed.0 in omega (arith, five, low)

-- With a status up to 3 the library counted no fault.
pub library_steady_call : (asked : Option Task) (scene : Scene) (answer : ℕ) → Answers asked scene answer → answer ≤ 3 → IsSteady scene.library
library_steady_call None scene answer (library, requests, source, out, told) low = library.1
library_steady_call (Some task) scene answer (outcome, comes, delivers) low =
    came_steady (plan task) scene outcome comes (λ is. plain_above Memory scene.out scene.errs answer outcome is delivers (omega arith) low)
    (λ is. plain_above LibraryFailed scene.out scene.errs answer outcome is delivers (omega arith) low)

-- So did the source.
pub source_steady_call : (asked : Option Task) (scene : Scene) (answer : ℕ) → Answers asked scene answer → answer ≤ 3 → IsSteady scene.source
source_steady_call None scene answer (library, requests, source, out, told) low = source.1
source_steady_call (Some task) scene answer answers low = source_steady_task task scene answer answers low

-- With status 1 nothing was done to the source.
pub unread_call : (asked : Option Task) (scene : Scene) (answer : ℕ) → Answers asked scene answer → answer ≡ 1 → IsSame scene.source
unread_call None scene answer (library, requests, source, out, told) one = source
unread_call (Some task) scene answer answers one = unread_task task scene answer answers one

-- Nothing is written but with 0 and 5.
pub quiet_call : (asked : Option Task) (scene : Scene) (answer : ℕ) → Answers asked scene answer → answer ≢ 0 → answer ≢ 5 → scene.out.after ≡ scene.out.before
quiet_call None scene answer (library, requests, source, out, told) not_zero not_five = out.0
quiet_call (Some task) scene answer answers not_zero not_five = quiet_task task scene answer answers not_zero not_five

-- The answer 5 has its cause.
pub sink_call : (asked : Option Task) (scene : Scene) (answer : ℕ) → Answers asked scene answer → answer ≡ 5 → HasFailed scene.out ⊎ HasFailed scene.errs
sink_call None scene answer (library, requests, source, out, inl told) five = absurd (let seven = told.0 in omega arith)
sink_call None scene answer (library, requests, source, out, inr failed) five = inr failed.1.0
sink_call (Some task) scene answer answers five = sink_told task scene answer answers five

-- The answer 7 comes only for words that ask for nothing, with its line.
pub words_call : (asked : Option Task) (scene : Scene) (answer : ℕ) → Answers asked scene answer → answer ≡ 7 → (asked ≡ None) × Appends scene.errs.before scene.errs.after (notice_line WordsRefused)
words_call None scene answer (library, requests, source, out, inl told) seven = (refl, told.1.0)
words_call None scene answer (library, requests, source, out, inr failed) seven = absurd (let five = failed.0 in omega arith)
words_call (Some task) scene answer answers seven = absurd (never_seven task scene answer answers seven)

-- Words that ask for nothing are answered by 7, unless their line can't be written.
pub unasked_call : (scene : Scene) (answer : ℕ) → Answers None scene answer → (answer ≡ 7) ⊎ (answer ≡ 5)
unasked_call scene answer (library, requests, source, out, inl told) = inl told.0
unasked_call scene answer (library, requests, source, out, inr failed) = inr failed.0

-- Words that ask for nothing touch the sink of errors alone.
pub untouched_call : (scene : Scene) (answer : ℕ) → Answers None scene answer → IsSame scene.library × IsSame scene.requests × IsSame scene.source × IsSame scene.out
untouched_call scene answer (library, requests, source, out, told) = (library, requests, source, out)

-- Where they are answered by 5, a part of their line was written.
pub unasked_part : (scene : Scene) (answer : ℕ) → Answers None scene answer → answer ≡ 5 → TakesPart scene.errs (notice_line WordsRefused)
unasked_part scene answer (library, requests, source, out, inl told) five = absurd (let seven = told.0 in omega arith)
unasked_part scene answer (library, requests, source, out, inr failed) five = failed.1
