-- Texts in a row, with commas.
use Rattle.std.specs.Prelude.{ℕ, ◌==◌, List, [], ◌++◌, if◌then◌else◌, codes}
use Rattle.std.specs.List.{join_with_byte}

-- The texts in a row, with a comma between each two.
abbrev pub comma_joined : List (List ℕ) → List ℕ
comma_joined texts = join_with_byte 44 texts

-- The comma before the text that has this number of texts before it: none before the first.
abbrev pub comma_before : ℕ → List ℕ
comma_before at = if at == 0 then [] else codes ","

-- The texts with commas, between parentheses.
abbrev pub in_parentheses : List (List ℕ) → List ℕ
in_parentheses texts = codes "(" ++ comma_joined texts ++ codes ")"

-- The texts with commas, between braces.
abbrev pub in_braces : List (List ℕ) → List ℕ
in_braces texts = codes "{" ++ comma_joined texts ++ codes "}"

-- The texts with commas, between brackets.
abbrev pub in_brackets : List (List ℕ) → List ℕ
in_brackets texts = codes "[" ++ comma_joined texts ++ codes "]"
