-- What was read of a source before a call failed.
use Rattle.std.proofs.Common.{ℕ, List, ◌++◌, Option, Some, None, Result, Ok, Err, append_assoc, sym, ◌∙◌, ap}
use Rattle.std.specs.Prelude.{OnErr}
use Rattle.std.specs.Io.KnownBytes.{Consumes, Keeps}

pub kept_front : (before between after : Option (List ℕ)) (front : List ℕ) → Consumes before between front → Keeps between after → Consumes before after front
kept_front None between after front taken kept = tt
kept_front (Some bytes) None after front taken kept = absurd taken
kept_front (Some bytes) (Some rest) None front taken kept = absurd kept
kept_front (Some bytes) (Some rest) (Some same) front taken kept = taken ∙ ap (λ behind. front ++ behind) (sym kept)

pub more_front : (before between after : Option (List ℕ)) (front more : List ℕ) → Consumes before between front → Consumes between after more → Consumes before after (front ++ more)
more_front None between after front more taken then_ = tt
more_front (Some bytes) None after front more taken then_ = absurd taken
more_front (Some bytes) (Some rest) None front more taken then_ = absurd then_
more_front (Some bytes) (Some rest) (Some last) front more taken then_ = taken ∙ ap (λ behind. front ++ behind) then_ ∙ sym (append_assoc front more last)

pub on_err : {T E : Type 0} (P : Type 0) (result : Result T E) → P → OnErr result P
on_err P (Ok x) p = tt
on_err P (Err e) p = p
