-- A value that is spelled by its code has it alone.
use Rattle.std.proofs.Common.{◌≡◌, ℕ, List, [], ◌++◌, Ordering, ap}
use Rattle.bag_model.proofs.Codes.{KeepsOrder, code_apart}

-- Values with the same code are one value, where codes keep the order of values.
pub code_one : {V : Type 0} {fits : V → Type 0} {code : V → List ℕ} {cmp : V → V → Ordering}
    → KeepsOrder fits code cmp → (v w : V) → fits v → fits w → code v ≡ code w → v ≡ w
code_one keeps v w p q e = code_apart keeps v w [] [] p q (ap (λ l. l ++ []) e)
