-- Answers of one fact are answers of another that holds of the same.
use Rattle.std.proofs.Common.{ℕ, List, Option, Some, None}
use Rattle.text_lines.specs.Answers.{IsSomeOf}
use Rattle.field_writes.specs.Ends.{TakesFront}

pub takes_same : {A : Type 0} (P Q : A → List ℕ → Type 0) (taken : Option (A × List ℕ))
    → ((a : A) (rest : List ℕ) → P a rest → Q a rest) → ((a : A) (rest : List ℕ) → Q a rest → P a rest) → TakesFront P taken → TakesFront Q taken
takes_same P Q None there back h = λ a rest q. h a rest (back a rest q)
takes_same P Q (Some (a, rest)) there back h = there a rest h

pub answers_same : {A : Type 0} (P Q : A → Type 0) (answer : Option A)
    → ((a : A) → P a → Q a) → ((a : A) → Q a → P a) → IsSomeOf P answer → IsSomeOf Q answer
answers_same P Q None there back h = λ a q. h a (back a q)
answers_same P Q (Some a) there back h = there a h
