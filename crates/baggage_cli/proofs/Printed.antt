-- A printed table, from what its file gives.
use Rattle.std.proofs.Common.{◌≡◌, ◌⊎◌, inl, inr, ℕ, ◌≤◌, List, length, Option, Some, None, Result, Ok, Err, ap, subst, sym}
use Rattle.std.specs.Result.{IsErrAnd}
use Rattle.bag_model.specs.Shapes.{Nodes}
use Rattle.bdl_lexer.specs.declared.TheConstants.{SOURCE_MAX}
use Rattle.bdl_load.specs.Loading.{Holding}
use Rattle.baggage_cli.specs.declared.refusals.Notice.TheVariants.{LibraryFailed, Memory}
use Rattle.baggage_cli.specs.declared.refusals.Refusal.{Refusal}
use Rattle.baggage_cli.specs.declared.refusals.Refusal.TheVariants.{Plain}
use Rattle.baggage_cli.specs.Outcomes.{Outcome}
use Rattle.baggage_cli.specs.Scene.{Change}
use Rattle.baggage_cli.specs.Tables.{printed, IsUntaken, IsUnprinted, PrintedGives, TableGives, Obtains, Brings}
use Rattle.baggage_cli.proofs.Obtained.{brought_file, given_steady}

given : (file : List ℕ) (held : Holding) (outcome : Result Nodes Refusal) → PrintedGives file (held file) outcome → TableGives (printed file) held outcome
given file held (Ok table) gives = gives
given file held (Err refusal) gives = gives

-- A file that isn't taken gives no table.
untaken_unprinted : (file : List ℕ) (content : Option (List ℕ)) (refusal : Refusal) → IsUntaken file content refusal → IsUnprinted file content refusal
untaken_unprinted file None refusal bad = bad
untaken_unprinted file (Some text) refusal bad = inl bad

same_refusal : (r s : Refusal) → ◌≡◌ {A = Outcome} (Err r) (Err s) → r ≡ s
same_refusal r s e = cc e

untaken_table : (file : List ℕ) (library : Change Holding) (requests : Change (List (List ℕ))) (refusal : Refusal) → Brings file library requests (Err refusal)
    → Obtains (printed file) library requests (Err refusal)
untaken_table file library requests refusal (same, counts, inl (is, asked)) = (same, counts, inl (ap Err (same_refusal refusal (Plain Memory) is), asked))
untaken_table file library requests refusal (same, counts, inr (inl (is, failed, asked))) = (same, counts, inr (inl (ap Err (same_refusal refusal (Plain LibraryFailed) is), failed, asked)))
untaken_table file library requests refusal (same, counts, inr (inr (steady, (held, names, told, asks, (bad, all))))) =
    (same, counts, inr (inr (steady, (held, names, told, asks, (untaken_unprinted file (held file) refusal bad, all)))))

-- A file that isn't taken is why there is no table.
pub unbrought_table : (file : List ℕ) (library : Change Holding) (requests : Change (List (List ℕ))) (refusal : Refusal) (result : Result Nodes Refusal)
    → IsErrAnd result (λ other. other ≡ refusal) → Brings file library requests (Err refusal) → Obtains (printed file) library requests result
unbrought_table file library requests refusal (Ok table) is brings = absurd is
unbrought_table file library requests refusal (Err other) is brings = subst (λ r. Obtains (printed file) library requests (Err r)) (sym is) (untaken_table file library requests refusal brings)

-- A table was read of what the file holds, or why there is none, or memory ran out.
pub obtains_printed : (file : List ℕ) (library : Change Holding) (requests : Change (List (List ℕ))) (text : List ℕ) (outcome : Result Nodes Refusal) → Brings file library requests (Ok text)
    → (outcome ≡ Err (Plain Memory)) ⊎ PrintedGives file (Some text) outcome → Obtains (printed file) library requests outcome
obtains_printed file library requests text outcome brings came =
    let (held, names, told, asks, (is, all)) = brought_file file library requests text brings in
    let steady = given_steady text brings.2 in
    elim came [
      | inl wanting ↦ (brings.0, brings.1, inl (wanting, (held, names, told, asks, all)))
      | inr gives ↦ (brings.0, brings.1, inr (inr (steady, (held, names, told, asks, (given file held outcome (subst (λ content. PrintedGives file content outcome) (sym is.0) gives), all)))))
    ]

-- A file that was taken isn't too long.
pub brought_short : (file : List ℕ) (library : Change Holding) (requests : Change (List (List ℕ))) (text : List ℕ) → Brings file library requests (Ok text) → length text ≤ SOURCE_MAX
brought_short file library requests text brings =
    let (held, names, told, asks, (is, all)) = brought_file file library requests text brings in
    is.1
