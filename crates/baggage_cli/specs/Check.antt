-- What is said of a table by its slots.
use Rattle.std.specs.Prelude.{ℕ, List, [], ◌∷◌, ◌++◌, codes}
use Rattle.std.specs.Fmt.{decimal}

-- The line that says how many slots a table has.
abbrev pub ok_line : ℕ → List ℕ
ok_line slots = codes "ok " ++ (decimal slots ++ 10 ∷ [])
