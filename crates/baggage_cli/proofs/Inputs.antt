-- What was read of a source.
use Rattle.std.proofs.Common.{◌≡◌, inl, inr, ℕ, ◌+◌, ◌<◌, ◌≤◌, List, ◌++◌, length, take, Option, Some, None, Result, Ok, Err, IfSome, refl, sym, ◌∙◌, ap, subst, length-append, arith}
use Rattle.std.proofs.lemmas.List.{append-nil}
use Rattle.std.proofs.lemmas.Grind.{common_steps}
use Rattle.std.specs.Global.{Vec}
use Rattle.std.specs.Result.{IsErrAnd}
use Rattle.std.specs.Io.KnownBytes.{Consumes, IsAtEnd}
use Rattle.text_lines.specs.declared.TheConstants.{INPUT_MAX}
use Rattle.text_lines.specs.Lines.{Line, lines_of}
use Rattle.baggage_cli.specs.declared.refusals.Refusal.{Refusal}
use Rattle.baggage_cli.specs.Outcomes.{Outcome, outcome_of, OrMemory}
use Rattle.baggage_cli.specs.Reading.{IsInputRead, ReadsInput, ReadsAll, Within}
use Rattle.baggage_cli.specs.Scene.{Change, IsSteady}

take_whole : (n : ℕ) (bytes : List ℕ) → length bytes ≤ n → take n bytes ≡ bytes
take_whole n bytes few = grind (arith, common_steps)

take_front : (n : ℕ) (front rest : List ℕ) → length front ≡ n → take n (front ++ rest) ≡ front
take_front n front rest count = grind (arith, common_steps)

held_whole : (before after : Option (List ℕ)) (input : List ℕ) → Consumes before after input → IsAtEnd after → IfSome before (λ told. told ≡ input)
held_whole None after input taken end = tt
held_whole (Some told) None input taken end = absurd taken
held_whole (Some told) (Some rest) input taken end = taken ∙ ap (λ behind. input ++ behind) end ∙ append-nil input

-- All bytes up to the end are the input.
pub whole_read : (source : Change (List ℕ)) (input : List ℕ) → Consumes source.before source.after input → IsAtEnd source.after → IsSteady source → length input ≤ INPUT_MAX → IsInputRead source input
whole_read source input taken end steady few = record {
  held = held_whole source.before source.after input taken end;
  taken = subst (Consumes source.before source.after) (sym (take_whole (INPUT_MAX + 1) input (omega arith))) taken;
  ended = λ short. end;
  steady = steady;
}

long_input : (before after : Option (List ℕ)) (front : List ℕ) → Consumes before after front → length front ≡ INPUT_MAX + 1
    → (input : List ℕ) × IfSome before (λ told. told ≡ input) × Consumes before after (take (INPUT_MAX + 1) input) × (INPUT_MAX < length input)
long_input None after front taken long = (front, tt, tt, omega arith)
long_input (Some told) None front taken long = absurd taken
long_input (Some told) (Some rest) front taken long =
    let first : take (INPUT_MAX + 1) told ≡ front = ap (take (INPUT_MAX + 1)) taken ∙ take_front (INPUT_MAX + 1) front rest long in
    let all = ap length taken in
    let parts = length-append front rest in
    (told, refl, taken ∙ ap (λ bytes. bytes ++ rest) (sym first), omega arith)

-- A source that gave one byte more than an input may have held an input that is too long.
pub long_read : (source : Change (List ℕ)) (front : List ℕ) → Consumes source.before source.after front → length front ≡ INPUT_MAX + 1 → IsSteady source
    → (input : List ℕ) × IsInputRead source input × (INPUT_MAX < length input)
long_read source front taken long steady =
    let found = long_input source.before source.after front taken long in
    let above = found.3 in
    (found.0, record { held = found.1; taken = found.2; ended = λ short. absurd (omega arith); steady = steady }, above)

-- A source that gives no input is the refusal of each command that reads it.
pub unread : (gives : List Line → Outcome → Type 0) (source : Change (List ℕ)) (result : Result (Vec ℕ) Refusal) (refusal : Refusal)
    → IsErrAnd result (λ other. other ≡ refusal) → ReadsInput source (Err refusal) → ReadsAll (Within gives) source (outcome_of result)
unread gives source (Ok input) refusal is reads = absurd is
unread gives source (Err other) refusal is (counts, unread_) = subst (λ r. ReadsAll (Within gives) source (Err r)) (sym is) (
  counts,
  elim unread_ [
    | inl wanting ↦ inl (ap Err wanting)
    | inr found ↦ elim found [
      | inl failed ↦ inr (inl (ap Err failed.0, failed.1))
      | inr long ↦ inr (inr (long.0, long.1, inl (long.2.0, ap Err long.2.1)))
    ]
  ],
)

-- What the lines of an input that was read come to is what the source gives.
pub read_gave : (gives : List Line → Outcome → Type 0) (source : Change (List ℕ)) (input : Vec ℕ) (text : List ℕ) (outcome : Outcome) → ReadsInput source (Ok input) → text ≡ input.items
    → OrMemory (gives (lines_of text)) outcome → ReadsAll (Within gives) source outcome
read_gave gives source input text outcome (counts, read, short) is (inl wanting) = (counts, inl wanting)
read_gave gives source input text outcome (counts, read, short) is (inr gave) = (counts, inr (inr (input.items, read, inr (short, subst (λ bytes. gives (lines_of bytes) outcome) is gave))))
