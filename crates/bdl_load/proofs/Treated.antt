-- How a library is treated by one call after another.
use Rattle.std.proofs.Common.{◌≡◌, ℕ, refl, sym, ◌∙◌, ap, subst, arith}
use Rattle.std.specs.Prelude.{Result, Ok, Err, OnOk, IfErr, IsErrOf}
use Rattle.std.specs.Result.{IsErrAnd}
use Rattle.outside.specs.declared.answers.LibraryFault.{LibraryFault}
use Rattle.outside.specs.declared.answers.LibraryFault.TheVariants as libraries
use Rattle.outside.specs.Causes.{Rose, HasCauseAt}
use Rattle.outside.specs.Transfers.{Files}
use Rattle.bdl_load.specs.declared.faults.DefFault.{DefFault}
use Rattle.bdl_load.specs.declared.faults.DefFault.TheVariants.{At, Failed, Memory}
use Rattle.bdl_load.specs.declared.faults.Fault.{Fault}
use Rattle.bdl_load.specs.Faults.{Blames, of_library}
use Rattle.bdl_load.specs.Loader.{TreatsLibrary, Halts}
use Rattle.bdl_load.proofs.Exits.{blames_any}

-- A refusal that blames a fault or says that memory is out isn't the library's.
pub halts_inside : (Holds : Fault → Type 0) (refusal : DefFault) → Halts Holds refusal → refusal ≡ Failed → ⊥
halts_inside Holds (At file line column code) halts is = absurd (cc is)
halts_inside Holds Failed halts is = halts
halts_inside Holds Memory halts is = absurd (cc is)

module _ {S : Type 0} (files : S → Files) (faults : S → ℕ) where
  -- A library that wasn't asked is as it was.
  pub treated_still : {T : Type 0} (state : S) (result : Result T DefFault) → (IsErrOf result Failed → ⊥) → TreatsLibrary files faults state state result
  treated_still state (Ok x) inside = record { cause = λ is. absurd (inside is); steady = refl; blamed = tt; later = omega arith; same = refl }
  treated_still state (Err refusal) inside =
      record { cause = λ is. absurd (inside is); steady = tt; blamed = blames_any _ refusal refl; later = omega arith; same = refl }

  -- The same where the call succeeds.
  pub treated_ok : {T : Type 0} (state : S) (value : T) → TreatsLibrary files faults state state (Ok value)
  treated_ok state value = record { cause = λ is. absurd (cc is); steady = refl; blamed = tt; later = omega arith; same = refl }

  -- The same where a fault of a file is blamed.
  pub treated_blamed : {T : Type 0} (state : S) (refusal : DefFault) → (refusal ≡ Failed → ⊥) → TreatsLibrary {T = T} files faults state state (Err refusal)
  treated_blamed state refusal inside = treated_still state (Err refusal) (λ is. inside (cc is))

  -- The same where a refusal is handed on.
  pub treated_refused : {T : Type 0} (state : S) (refusal : DefFault) (result : Result T DefFault) → IsErrAnd result (λ other. other ≡ refusal) → (refusal ≡ Failed → ⊥)
      → TreatsLibrary files faults state state result
  treated_refused state refusal (Ok x) is inside = absurd is
  treated_refused state refusal (Err other) is inside = treated_blamed state other (λ failed. inside (sym is ∙ failed))

  -- The same where memory is out.
  pub treated_unless : {T : Type 0} (state : S) (result : Result T DefFault) → IsErrAnd result (λ other. other ≡ Memory) → TreatsLibrary files faults state state result
  treated_unless state result is = treated_refused state Memory result is (λ failed. absurd (cc failed))

  -- A refusal that is handed on says how the call that it came from treated the library.
  pub treated_exit : {T U : Type 0} (before after : S) (refusal : DefFault) (result : Result U DefFault) → IsErrAnd result (λ other. other ≡ refusal)
      → TreatsLibrary {T = T} files faults before after (Err refusal) → TreatsLibrary files faults before after result
  treated_exit before after refusal (Ok x) is treated = absurd is
  treated_exit before after refusal (Err other) is treated = record {
    cause = λ failed. treated.cause (ap Err (sym is ∙ cc failed));
    steady = tt;
    blamed = subst (Blames (λ _. faults after ≡ faults before)) (sym is) treated.blamed;
    later = treated.later;
    same = treated.same;
  }

  -- A call that succeeded, and another after it, treat the library as one call.
  pub treated_after : {T U : Type 0} (before between after : S) (value : T) (result : Result U DefFault) → TreatsLibrary files faults before between (Ok value)
      → TreatsLibrary files faults between after result → TreatsLibrary files faults before after result
  treated_after before between after value result first second =
      let still : faults between ≡ faults before = first.steady in
      record {
        cause = λ failed. subst (λ n. Rose n (faults after)) still (second.cause failed);
        steady = subst (λ n. OnOk result (faults after ≡ n)) still second.steady;
        blamed = subst (λ n. IfErr result (Blames (λ _. faults after ≡ n))) still second.blamed;
        later = omega (arith, first.later, second.later);
        same = second.same ∙ first.same;
      }

  -- A fetch that succeeded.
  pub treated_fetched : {T : Type 0} (before after : S) (value : T) → HasCauseAt libraries.Failed (faults before) (faults after) (Ok value) → files after ≡ files before
      → TreatsLibrary files faults before after (Ok value)
  treated_fetched before after value fetch same = record { cause = λ is. absurd (cc is); steady = fetch.steady; blamed = tt; later = fetch.later; same = same }

  -- A fetch that failed, or for which there was no memory.
  pub treated_unfetched : {T U : Type 0} (before after : S) (fault : LibraryFault) (result : Result U DefFault) → IsErrAnd result (λ other. other ≡ of_library fault)
      → HasCauseAt {T = T} libraries.Failed (faults before) (faults after) (Err fault) → files after ≡ files before → TreatsLibrary files faults before after result
  treated_unfetched before after fault (Ok x) is fetch same = absurd is
  treated_unfetched before after libraries.Failed (Err other) is fetch same =
      record { cause = λ failed. fetch.failed refl; steady = tt; blamed = subst (Blames (λ _. faults after ≡ faults before)) (sym is) tt; later = fetch.later; same = same }
  treated_unfetched before after libraries.Memory (Err other) is fetch same =
      record { cause = λ failed. absurd (cc (is, failed)); steady = tt; blamed = subst (Blames (λ _. faults after ≡ faults before)) (sym is) tt; later = fetch.later; same = same }
