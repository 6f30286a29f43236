-- What is read from a text, and what is taken from its beginning.
use Rattle.std.specs.Prelude.{◌≡◌, ℕ, ◌<◌, List, [], ◌∷◌, map, length, codes}
use Rattle.std.specs.Fmt.{decimal}
use Rattle.std.specs.List.{AllByRecursion, join_with_byte}
use Rattle.text_lines.specs.Words.{IsCut}
use Rattle.graph_lines.specs.Statements.{NamedView, NamedAct, Statement, Service, Step, Show}
use Rattle.graph_lines.specs.Forms.{IsNumber, IsWord, IsPath, IsSoundView, IsSoundNamedAct, IsSoundStatement, view_words, service_word, act_name, act_words, statement_words}

-- The text begins with a number and a space.
abbrev pub NumberThen : List ℕ → ℕ → List ℕ → Type 0
NumberThen text number rest = IsNumber number × IsCut text (decimal number) rest

-- The text begins with a name and a space.
abbrev pub NameThen : List ℕ → List ℕ → List ℕ → Type 0
NameThen text name rest = IsWord name × IsCut text name rest

-- The text begins with a path and a space.
abbrev pub PathThen : List ℕ → List ℕ → List ℕ → Type 0
PathThen text path rest = IsPath path × IsCut text path rest

-- The text is that of a number.
abbrev pub IsNumberText : List ℕ → ℕ → Type 0
IsNumberText text number = IsNumber number × (text ≡ decimal number)

-- The text is numbers with one space between two of them.
abbrev pub AreNumbers : List ℕ → List ℕ → Type 0
AreNumbers text numbers =
    (0 < length numbers) × AllByRecursion IsNumber numbers
    × (text ≡ join_with_byte 32 (map decimal numbers))

-- The text is paths with one space between two of them.
abbrev pub ArePaths : List ℕ → List (List ℕ) → Type 0
ArePaths text paths =
    (0 < length paths) × AllByRecursion IsPath paths × (text ≡ join_with_byte 32 paths)

-- The text is the words of a view.
abbrev pub IsViewText : List ℕ → NamedView → Type 0
IsViewText text view = IsSoundView view × (text ≡ join_with_byte 32 (view_words view))

-- The text is the words after the number of a step with an act of this name.
abbrev pub IsActText : List ℕ → List ℕ → NamedAct → Type 0
IsActText name text act =
    IsSoundNamedAct act × (act_name act ≡ name) × (text ≡ join_with_byte 32 (act_words act))

-- The first word of a line.
abbrev pub first_word : Statement → List ℕ
first_word (Service form name view) = service_word form
first_word (Step number act) = act_name act
first_word (Show step) = codes "show"

-- The words after the first.
abbrev pub more_words : Statement → List (List ℕ)
more_words (Service form name view) = name ∷ view_words view
more_words (Step number act) = decimal number ∷ act_words act
more_words (Show step) = decimal step ∷ []

-- The text is the words after the first of a statement that begins with this one.
abbrev pub IsRestText : List ℕ → List ℕ → Statement → Type 0
IsRestText first text statement =
    IsSoundStatement statement × (first_word statement ≡ first)
    × (text ≡ join_with_byte 32 (more_words statement))

-- The text is the words of a statement.
abbrev pub IsStatementText : List ℕ → Statement → Type 0
IsStatementText text statement =
    IsSoundStatement statement × (text ≡ join_with_byte 32 (statement_words statement))
