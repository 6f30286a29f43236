-- What an early return by `?` hands on.
use Rattle.std.proofs.Common.{◌≡◌, ℕ, sym, ◌∙◌, subst}
use Rattle.std.specs.Prelude.{Result, Ok, Err, IfErr}
use Rattle.std.specs.Result.{IsErrAnd}
use Rattle.bdl_load.specs.declared.faults.DefFault.{DefFault}
use Rattle.bdl_load.specs.declared.faults.DefFault.TheVariants.{At, Failed, Memory}
use Rattle.bdl_load.specs.Faults.{Blames}

pub exit_err : {T E : Type 0} (Q : E → Type 0) (r : Result T E) (e : E) → IsErrAnd r (λ d. d ≡ e) → Q e → IfErr r Q
exit_err Q (Ok x) e p q = tt
exit_err Q (Err d) e p q = subst Q (sym p) q

-- what holds holds of each fault that is blamed
pub blames_any : (P : Type 0) (refusal : DefFault) → P → Blames (λ fault. P) refusal
blames_any P (At file line column code) p = p
blames_any P Failed p = tt
blames_any P Memory p = tt

pub exit_any : {T : Type 0} (P : Type 0) (r : Result T DefFault) → P → IfErr r (Blames (λ fault. P))
exit_any P (Ok x) p = tt
exit_any P (Err refusal) p = blames_any P refusal p

-- a count that didn't change, after a part in which it didn't change
pub blames_behind : (before between after : ℕ) (refusal : DefFault) → between ≡ before → Blames (λ fault. after ≡ between) refusal → Blames (λ fault. after ≡ before) refusal
blames_behind before between after (At file line column code) earlier later = later ∙ earlier
blames_behind before between after Failed earlier later = tt
blames_behind before between after Memory earlier later = tt
