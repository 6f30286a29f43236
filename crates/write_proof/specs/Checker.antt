-- How the entries of a certificate begin.
use Rattle.std.specs.Prelude.{◌≡◌, ℕ, List, ◌∷◌}
use Rattle.write_proof.specs.Entries.{Entry, Why, ValueText}

-- The entries begin with a step and this path, and with the value's text.
abbrev pub BeginWith : List Entry → List ℕ → List ℕ → Type 0
BeginWith said path text =
    (n : ℕ) × (more : List Entry) × (said ≡ Why n path ∷ ValueText text ∷ more)
