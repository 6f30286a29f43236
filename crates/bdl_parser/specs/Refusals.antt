-- What the parser's own functions say where they refuse.
use Rattle.std.specs.Prelude.{◌≡◌, ℕ, ◌+◌, Bool, true, false, Option, List, ◌∷◌, drop, ◌||◌, codes}
use Rattle.std.specs.Option.{is_some}
use Rattle.std.specs.Str.{IsUtf8}
use Rattle.bag_model.specs.Words.{is_word}
use Rattle.bdl_parser.specs.declared.ParseCode.TheVariants.{Expected, TypeNesting}
use Rattle.outside.specs.declared.answers.OrMemory.{OrMemory}
use Rattle.bdl_parser.specs.declared.ParseCode.{ParseCode}
use Rattle.outside.specs.declared.answers.OrMemory.TheVariants.{Fault, Memory}
use Rattle.bdl_parser.specs.declared.parser.Meaning.{Meaning}
use Rattle.bdl_parser.specs.declared.parser.Meaning.TheVariants.{Word, Number, Quoted, Sign}
use Rattle.bdl_parser.specs.declared.trees.Spot.{Spot}
use Rattle.bdl_parser.specs.Grammar.{a_leaf, a_holding, this_word}
use Rattle.bdl_parser.specs.Lexemes.{What, Lexeme, word, number, quoted, sign}
use Rattle.grammar_model.specs.Grammars.{Grammar}
use Rattle.grammar_model.specs.Stops.{first_passes, StopsFrom, GoesOn}

-- Whether the first token says something.
abbrev pub meets : {A : Type 0} → (Lexeme → Option A) → List Lexeme → Bool
meets meant ts = first_passes (λ t. is_some (meant t)) ts

-- A type begins with this token: a type of one word, a word that holds elements, or "map".
abbrev pub is_type_first : Lexeme → Bool
is_type_first t =
    is_some (a_leaf t) || (is_some (a_holding t) || is_some (this_word (codes "map") t))

-- Nothing was read, and the first token doesn't say it.
abbrev pub IsTokenRefused : {A : Type 0} → (Lexeme → Option A) → OrMemory ParseCode → List Lexeme
    → List Lexeme → Type 0
IsTokenRefused meant (Fault Expected) ts left = (ts ≡ left) × (meets meant ts ≡ false)
IsTokenRefused meant (Fault TypeNesting) ts left = ⊥
IsTokenRefused meant Memory ts left = Unit {0}

-- Expected: with this room or more it stops at what is left. TypeNesting: with this room it stops
-- there, and with one more it goes on.
abbrev pub IsFormRefused : {A : Type 0} → (ℕ → Grammar Lexeme A) → ℕ → OrMemory ParseCode
    → List Lexeme → List Lexeme → Type 0
IsFormRefused family room (Fault Expected) ts left = StopsFrom family room ts left
IsFormRefused family room (Fault TypeNesting) ts left =
    GoesOn (family room) (family (room + 1)) ts left
IsFormRefused family room Memory ts left = Unit {0}

-- What a meaning says.
abbrev pub meant_by : Meaning → What
meant_by (Word bytes) = word bytes.now
meant_by (Number value) = number value
meant_by (Quoted bytes) = quoted bytes.now
meant_by (Sign byte) = sign byte

-- A word has the bytes of one, and what is between quotes is UTF-8.
abbrev pub IsWellSpelled : Meaning → Type 0
IsWellSpelled (Word bytes) = IsUtf8 bytes.now × (is_word bytes.now ≡ true)
IsWellSpelled (Quoted bytes) = IsUtf8 bytes.now
IsWellSpelled _ = Unit {0}

-- The first token says this at this place.
abbrev pub HasFirst : What → Spot → List Lexeme → Type 0
HasFirst what spot ts = ts ≡ record { what = what; spot = spot } ∷ drop 1 ts
