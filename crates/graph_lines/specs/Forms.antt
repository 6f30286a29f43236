-- The form of a line: the words of what it says, with one space between two of them.
use Rattle.std.specs.Prelude.{◌≡◌, ℕ, ◌^◌, ◌<◌, true, List, [], ◌∷◌, map, length, codes}
use Rattle.std.specs.Fmt.{decimal}
use Rattle.std.specs.List.{AllByRecursion, join_with_byte}
use Rattle.std.specs.Str.{IsUtf8}
use Rattle.context_model.specs.declared.Form.{Form as WireForm}
use Rattle.context_model.specs.declared.Form.TheVariants.{One, Two}
use Rattle.bag_model.specs.Slots.{dotted}
use Rattle.bag_model.specs.Words.{is_word}
use Rattle.text_lines.specs.Words.{IsOneWord}
use Rattle.graph_lines.specs.Statements.{NamedView, NamedAct, Statement, All, Nothing, Only, Start, Recv, Set, Branch, Forward, Trim, Join, Service, Step, Show}

-- The words of a view.
abbrev pub view_words : NamedView → List (List ℕ)
view_words All = codes "all" ∷ []
view_words Nothing = codes "none" ∷ []
view_words (Only paths) = codes "only" ∷ paths

-- The word that names an act.
abbrev pub act_name : NamedAct → List ℕ
act_name (Start service) = codes "start"
act_name (Recv service hex) = codes "recv"
act_name (Set parent path write) = codes "set"
act_name (Branch parent) = codes "branch"
act_name (Forward parent service) = codes "forward"
act_name (Trim parent budget) = codes "trim"
act_name (Join parents) = codes "join"

-- The words of an act after the step's number.
abbrev pub act_words : NamedAct → List (List ℕ)
act_words (Start service) = service ∷ []
act_words (Recv service hex) = service ∷ hex ∷ []
act_words (Set parent path write) = decimal parent ∷ path ∷ write ∷ []
act_words (Branch parent) = decimal parent ∷ []
act_words (Forward parent service) = decimal parent ∷ service ∷ []
act_words (Trim parent budget) = decimal parent ∷ decimal budget ∷ []
act_words (Join parents) = map decimal parents

-- The word that declares a service of the form.
abbrev pub service_word : WireForm → List ℕ
service_word One = codes "service"
service_word Two = codes "service2"

-- The words of a line.
abbrev pub statement_words : Statement → List (List ℕ)
statement_words (Service form name view) = service_word form ∷ name ∷ view_words view
statement_words (Step number act) = act_name act ∷ decimal number ∷ act_words act
statement_words (Show step) = codes "show" ∷ decimal step ∷ []

-- A number has at most ten digits.
abbrev pub IsNumber : ℕ → Type 0
IsNumber number = number < 10 ^ 10

-- A name is a letter, and then letters and digits; it may be a reserved word of the definition
-- language.
abbrev pub IsWord : List ℕ → Type 0
IsWord text = is_word text ≡ true

-- A path is one name, or several with dots between them.
abbrev pub IsPath : List ℕ → Type 0
IsPath text =
    (names : List (List ℕ)) × (0 < length names) × AllByRecursion IsWord names
    × (text ≡ dotted names)

-- A view names at least one path, where it names any.
abbrev pub IsSoundView : NamedView → Type 0
IsSoundView All = Unit {0}
IsSoundView Nothing = Unit {0}
IsSoundView (Only paths) = (0 < length paths) × AllByRecursion IsPath paths

-- The parts of an act are numbers, names, paths and words as their kind wants it; a write isn't
-- empty, but may hold spaces.
abbrev pub IsSoundNamedAct : NamedAct → Type 0
IsSoundNamedAct (Start service) = IsWord service
IsSoundNamedAct (Recv service hex) = IsWord service × IsOneWord hex
IsSoundNamedAct (Set parent path write) = IsNumber parent × IsPath path × (0 < length write)
IsSoundNamedAct (Branch parent) = IsNumber parent
IsSoundNamedAct (Forward parent service) = IsNumber parent × IsWord service
IsSoundNamedAct (Trim parent budget) = IsNumber parent × IsNumber budget
IsSoundNamedAct (Join parents) = (0 < length parents) × AllByRecursion IsNumber parents

-- Each part of what a line says is as its kind wants it.
abbrev pub IsSoundStatement : Statement → Type 0
IsSoundStatement (Service form name view) = IsWord name × IsSoundView view
IsSoundStatement (Step number act) = IsNumber number × IsSoundNamedAct act
IsSoundStatement (Show step) = IsNumber step

-- The line has a form, and says this: it is the words of something sound, one space between two of
-- them.
abbrev pub HasStatementForm : List ℕ → Statement → Type 0
HasStatementForm text statement =
    IsUtf8 text × IsSoundStatement statement
    × (text ≡ join_with_byte 32 (statement_words statement))
