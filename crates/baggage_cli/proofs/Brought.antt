-- What a file gives, from what was fetched of it.
use Rattle.std.proofs.Common.{◌≡◌, ◌⊎◌, inl, inr, ℕ, ◌<◌, ◌≤◌, List, [], ◌∷◌, length, take, Option, Some, None, IfSome, Result, Ok, Err, refl, ap, subst, arith}
use Rattle.std.specs.Global.{Vec}
use Rattle.std.specs.Option.{option_map}
use Rattle.std.specs.Result.{IsErrAnd}
use Rattle.std.proofs.lemmas.Bool.{cases_lt}
use Rattle.std.proofs.lemmas.List.{take_all, length-take-le}
use Rattle.outside.specs.declared.TheConstants.{FETCH_MAX}
use Rattle.outside.specs.Transfers.{Files, Asked, Asks, Fetches, fetched}
use Rattle.bdl_lexer.specs.declared.TheConstants.{SOURCE_MAX}
use Rattle.bdl_load.specs.Loading.{Holding}
use Rattle.baggage_cli.specs.declared.refusals.Notice.TheVariants.{LibraryFailed, Memory}
use Rattle.baggage_cli.specs.declared.refusals.Refusal.{Refusal}
use Rattle.baggage_cli.specs.declared.refusals.Refusal.TheVariants.{Plain}
use Rattle.baggage_cli.specs.Outcomes.{Outcome, outcome_of}
use Rattle.baggage_cli.specs.Scene.{Change, NeverFell, IsSteady, HasFailed}
use Rattle.baggage_cli.specs.Tables.{FileGives, Brings}

-- All of a file was fetched, or it is longer than a file may be that is taken, and so is what was fetched.
whole_or : (text : List ℕ) → (fetched text ≡ text) ⊎ ((SOURCE_MAX < length (fetched text)) × (SOURCE_MAX < length text))
unfolding fetched
whole_or text = by (cases_lt FETCH_MAX (length text))
  where
    by : (FETCH_MAX < length text) ⊎ (length text ≤ FETCH_MAX) → (take FETCH_MAX text ≡ text) ⊎ ((SOURCE_MAX < length (take FETCH_MAX text)) × (SOURCE_MAX < length text))
    by (inl long) = inr (omega (arith, length-take-le FETCH_MAX text (omega (arith, long))), omega (arith, long))
    by (inr short) = inl (take_all FETCH_MAX text short)

some_text : (a b : List ℕ) → ◌≡◌ {A = Option (List ℕ)} (Some a) (Some b) → a ≡ b
some_text a b e = cc e

-- What is given of a file that is too long is given of each such file.
of_long : (file text other : List ℕ) (outcome : Outcome) → SOURCE_MAX < length text → SOURCE_MAX < length other → FileGives file (Some text) outcome → FileGives file (Some other) outcome
of_long file text other (Ok whole) long longer (is, short) =
    let above : SOURCE_MAX < length whole = subst (λ t. SOURCE_MAX < length t) (some_text text whole is) long in
    absurd (omega (arith, above, short))
of_long file text other (Err refusal) long longer (above, is) = (longer, is)

-- What is given of what was fetched is given of the file.
of_fetched : (file text : List ℕ) (outcome : Outcome) → FileGives file (Some (fetched text)) outcome → FileGives file (Some text) outcome
of_fetched file text outcome gives = elim (whole_or text) [
  | inl whole ↦ subst (λ t. FileGives file (Some t) outcome) whole gives
  | inr long ↦ of_long file (fetched text) text outcome long.0 long.1 gives
]

of_found : (file : List ℕ) (content found : Option (List ℕ)) (outcome : Outcome) → found ≡ option_map fetched content → FileGives file found outcome → FileGives file content outcome
of_found file None found outcome is gives = subst (λ f. FileGives file f outcome) is gives
of_found file (Some text) found outcome is gives = of_fetched file text outcome (subst (λ f. FileGives file f outcome) is gives)

-- What is given of what was found is given of the files of the library, which was asked for this one alone.
came : (file : List ℕ) (files : Files) (before after : Asked) (found : Option (List ℕ)) (outcome : Outcome) → Fetches files file found → Asks (file ∷ []) before after → FileGives file found outcome
    → (held : Holding) × (names : List (List ℕ)) × IfSome files (λ told. told ≡ held) × Asks names before after × (FileGives file (held file) outcome × (names ≡ file ∷ []))
came file None before after found outcome fetches asks gives = ((λ name. found), file ∷ [], tt, asks, (gives, refl))
came file (Some held) before after found outcome fetches asks gives = (held, file ∷ [], refl, asks, (of_found file (held file) found outcome fetches gives, refl))

asked : (file : List ℕ) (files : Files) (before after : Asked) → Asks (file ∷ []) before after
    → (held : Holding) × (names : List (List ℕ)) × IfSome files (λ told. told ≡ held) × Asks names before after × (names ≡ file ∷ [])
asked file None before after asks = ((λ name. None), file ∷ [], tt, asks, refl)
asked file (Some held) before after asks = (held, file ∷ [], refl, asks, refl)

-- The answer is that memory ran out.
pub wanting_brought : (result : Result (Vec ℕ) Refusal) → IsErrAnd result (λ other. other ≡ Plain Memory) → outcome_of result ≡ Err (Plain Memory)
wanting_brought (Ok text) is = absurd is
wanting_brought (Err refusal) is = ap Err is

module _ (file : List ℕ) (library : Change Holding) (requests : Change (List (List ℕ))) (same : library.after ≡ library.before) (counts : NeverFell library) (asks : Asks (file ∷ []) requests.before requests.after) where
  -- The file was taken, or why it isn't, or memory ran out.
  pub brings_found : (found : Option (List ℕ)) (outcome : Outcome) → IsSteady library → Fetches library.before file found → (outcome ≡ Err (Plain Memory)) ⊎ FileGives file found outcome
      → Brings file library requests outcome
  brings_found found outcome steady fetches (inl wanting) = (same, counts, inl (wanting, asked file library.before requests.before requests.after asks))
  brings_found found outcome steady fetches (inr gives) = (same, counts, inr (inr (steady, came file library.before requests.before requests.after found outcome fetches asks gives)))

  -- Memory ran out.
  pub brings_nothing : (outcome : Outcome) → outcome ≡ Err (Plain Memory) → Brings file library requests outcome
  brings_nothing outcome wanting = (same, counts, inl (wanting, asked file library.before requests.before requests.after asks))

  -- The library failed.
  pub brings_failed : (outcome : Outcome) → outcome ≡ Err (Plain LibraryFailed) → HasFailed library → Brings file library requests outcome
  brings_failed outcome is failed = (same, counts, inr (inl (is, failed, asked file library.before requests.before requests.after asks)))
