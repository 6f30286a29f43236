-- The grammar of a definition.
use Rattle.std.specs.Prelude.{ℕ, zero, suc, Bool, false, Option, None, Some, List, codes, if◌then◌else◌, ◌==◌}
use Rattle.std.specs.Option.{option_map}
use Rattle.std.specs.Str.{bytes_eq}
use Rattle.bdl_parser.specs.declared.trees.Decl.{Decl}
use Rattle.bdl_parser.specs.declared.trees.Decl.TheVariants.{Bag, Struct}
use Rattle.bdl_parser.specs.declared.trees.Holding.{Holding}
use Rattle.bdl_parser.specs.declared.trees.Import.{Import}
use Rattle.bdl_parser.specs.declared.trees.Module.{Module}
use Rattle.bdl_parser.specs.declared.trees.Spot.{Spot}
use Rattle.bdl_parser.specs.Lexemes.{What, Lexeme, word, number, quoted, sign}
use Rattle.bdl_parser.specs.Trees.{Leaf, TypeTree, BagFieldTree, StructFieldTree, leaf, held, map}
use Rattle.bdl_parser.specs.Words.{name_of_word, leaf_of, holding_of}
use Rattle.grammar_model.specs.Grammars.{Grammar, token, two, either, made, many, nothing, at_end}

-- Whether what a token says is this word.
abbrev pub is_this_word : List ℕ → What → Bool
is_this_word text (word found) = bytes_eq found text
is_this_word text _ = false

-- Whether what a token says is this sign.
abbrev pub is_this_sign : ℕ → What → Bool
is_this_sign byte (sign found) = found == byte
is_this_sign byte _ = false

-- A token that is this word says its place.
abbrev pub this_word : List ℕ → Lexeme → Option Spot
this_word text lexeme = if is_this_word text lexeme.what then Some lexeme.spot else None

-- A token that is this sign says its place.
abbrev pub this_sign : ℕ → Lexeme → Option Spot
this_sign byte lexeme = if is_this_sign byte lexeme.what then Some lexeme.spot else None

-- The name that a word is.
abbrev pub name_in : What → Option (List ℕ)
name_in (word text) = name_of_word text
name_in _ = None

-- A name, with its place.
abbrev pub a_name : Lexeme → Option (List ℕ × Spot)
a_name lexeme = option_map (λ text. (text, lexeme.spot)) (name_in lexeme.what)

-- The number that a token is.
abbrev pub number_in : What → Option ℕ
number_in (number value) = Some value
number_in _ = None

-- A number, with its place.
abbrev pub a_number : Lexeme → Option (ℕ × Spot)
a_number lexeme = option_map (λ value. (value, lexeme.spot)) (number_in lexeme.what)

-- The text that a token is.
abbrev pub quoted_in : What → Option (List ℕ)
quoted_in (quoted text) = Some text
quoted_in _ = None

-- A text, with its place.
abbrev pub a_text : Lexeme → Option (List ℕ × Spot)
a_text lexeme = option_map (λ text. (text, lexeme.spot)) (quoted_in lexeme.what)

-- The type of one word that a token is.
abbrev pub leaf_in : What → Option Leaf
leaf_in (word text) = leaf_of text
leaf_in _ = None

-- A type of one word, with its place.
abbrev pub a_leaf : Lexeme → Option TypeTree
a_leaf lexeme = option_map (λ found. leaf found lexeme.spot) (leaf_in lexeme.what)

-- The word before an element's type that a token is: `set` or `greatest`.
abbrev pub holding_in : What → Option Holding
holding_in (word text) = holding_of text
holding_in _ = None

-- "set" | "greatest", with its place.
abbrev pub a_holding : Lexeme → Option (Holding × Spot)
a_holding lexeme = option_map (λ found. (found, lexeme.spot)) (holding_in lexeme.what)

-- ( "set" | "greatest" ) "<" type ">".
abbrev pub held_of : Grammar Lexeme TypeTree → Grammar Lexeme TypeTree
held_of inner =
    made (λ p. held p.0.0 p.1.1.0 p.0.1)
    (two (token a_holding) (two (token (this_sign 60)) (two inner (token (this_sign 62)))))

-- "map" "<" type "," type ">".
abbrev pub map_of : Grammar Lexeme TypeTree → Grammar Lexeme TypeTree
map_of inner =
    made (λ p. map p.1.1.0 p.1.1.1.1.0 p.0)
    (two (token (this_word (codes "map")))
    (two (token (this_sign 60))
    (two inner (two (token (this_sign 44)) (two inner (token (this_sign 62)))))))

-- A type in which at most a given number of types are inside one another, itself among them.
unfoldable pub a_type : ℕ → Grammar Lexeme TypeTree
a_type zero = nothing
a_type (suc n) = either (token a_leaf) (either (held_of (a_type n)) (map_of (a_type n)))

-- Type NAME "=" Number ";".
abbrev pub a_bag_field : ℕ → Grammar Lexeme BagFieldTree
a_bag_field n =
    made (λ p. record { kind = p.0; name = p.1.0.0; name_at = p.1.0.1; number = p.1.1.1.0.0; number_at = p.1.1.1.0.1 })
    (two (a_type n) (two (token a_name)
    (two (token (this_sign 61)) (two (token a_number) (token (this_sign 59))))))

-- Type NAME ";".
abbrev pub a_struct_field : ℕ → Grammar Lexeme StructFieldTree
a_struct_field n =
    made (λ p. record { kind = p.0; name = p.1.0.0; name_at = p.1.0.1 })
    (two (a_type n) (two (token a_name) (token (this_sign 59))))

-- { type NAME "=" Number ";" } "}".
abbrev pub bag_fields : ℕ → Grammar Lexeme (List BagFieldTree)
bag_fields n = made (λ p. p.0) (many (a_bag_field n) (token (this_sign 125)))

-- { type NAME ";" } "}".
abbrev pub struct_fields : ℕ → Grammar Lexeme (List StructFieldTree)
struct_fields n = made (λ p. p.0) (many (a_struct_field n) (token (this_sign 125)))

-- "bag" NAME "{" fields.
abbrev pub a_bag : ℕ → Grammar Lexeme Decl
a_bag n =
    made (λ p. Bag p.1.0.0 p.1.0.1 p.1.1.1)
    (two (token (this_word (codes "bag")))
    (two (token a_name) (two (token (this_sign 123)) (bag_fields n))))

-- "struct" NAME "{" fields.
abbrev pub a_struct : ℕ → Grammar Lexeme Decl
a_struct n =
    made (λ p. Struct p.1.0.0 p.1.0.1 p.1.1.1)
    (two (token (this_word (codes "struct")))
    (two (token a_name) (two (token (this_sign 123)) (struct_fields n))))

-- Bag | struct.
abbrev pub a_decl : ℕ → Grammar Lexeme Decl
a_decl n = either (a_bag n) (a_struct n)

-- "import" Text ";".
abbrev pub an_import : Grammar Lexeme Import
an_import =
    made (λ p. record { file = p.1.0.0; at = p.1.0.1 })
    (two (token (this_word (codes "import"))) (two (token a_text) (token (this_sign 59))))

-- { bag | struct }, to the end.
abbrev pub the_decls : ℕ → Grammar Lexeme (List Decl)
the_decls n = made (λ p. p.0) (many (a_decl n) at_end)

-- { import } { bag | struct }, to the end.
abbrev pub a_module : ℕ → Grammar Lexeme Module
a_module n = made (λ p. record { imports = p.0; decls = p.1 }) (many an_import (the_decls n))
