-- What is loaded is spelled, so what is laid out of it makes a table.
use Rattle.std.proofs.Common.{◌≡◌, ℕ, zero, suc, ◌^◌, ◌<◌, Bool, true, false, if◌then◌else◌, Option, None, Some, List, [], ◌∷◌, ◌++◌, inl, inr, subst, sym, codes, arith}
use Rattle.std.specs.List.{All, AllByRecursion}
use Rattle.std.specs.Option.{option_map}
use Rattle.std.proofs.lemmas.List.Elements.{All-nil, All-cons, All-head, All-tail, All-append}
use Rattle.bag_model.specs.Shapes.{Nodes}
use Rattle.bag_model.specs.Tables.{is_name, IsTable}
use Rattle.bdl_lexer.specs.declared.Token.{Token}
use Rattle.bdl_lexer.specs.declared.TokenClass.{TokenClass}
use Rattle.bdl_lexer.specs.declared.TokenClass.TheVariants.{Word, Number, Text, Sign}
use Rattle.bdl_lexer.specs.Scan.{IsNumberInRange}
use Rattle.bdl_lexer.specs.Spans.{LiesIn, token_text}
use Rattle.bdl_lexer.proofs.Spans.{tokens_lie}
use Rattle.grammar_model.specs.Grammars.{Grammar, token, two, either, made, Repeats, many, nothing, at_end}
use Rattle.bdl_parser.specs.declared.TheConstants.{NESTING_MAX}
use Rattle.bdl_parser.specs.declared.trees.Decl.TheVariants.{Bag, Struct}
use Rattle.bdl_parser.specs.declared.trees.Import.{Import}
use Rattle.bdl_parser.specs.declared.trees.Module.{Module}
use Rattle.bdl_parser.specs.declared.trees.Spot.{Spot}
use Rattle.bdl_parser.specs.Grammar.{this_word, this_sign, name_in, number_in, a_name, a_number, a_text, a_leaf, a_holding, held_of, map_of, a_type, a_bag_field, a_struct_field, bag_fields, struct_fields, a_bag, a_struct, an_import, the_decls, a_module}
use Rattle.bdl_parser.specs.Lexemes.{What, Lexeme, word, number, quoted, sign, what_of, lexemes_of}
use Rattle.bdl_parser.specs.Decls.{IsSpelledField, IsSpelledDecl, AreSpelledDecls}
use Rattle.bdl_parser.specs.Trees.{TypeTree}
use Rattle.bdl_parser.specs.Trees as trees
use Rattle.bdl_load.specs.declared.files.LoadedFile.{LoadedFile}
use Rattle.bdl_load.specs.Loading.{Holding, Loading, Loads, Enters, Takes, all_loaded, stopped, loaded_as}
use Rattle.bdl_load.specs.Source.{SaysModule}
use Rattle.bdl_check.specs.Declarations.{all_placed}
use Rattle.bdl_check.specs.Compiler.{IsTableOf}
use Rattle.bdl_check.proofs.ChosenBags.{chosen_table}
use Rattle.bdl_check.proofs.Compiling.{all_spelled}

-- ---- tokens

-- A number has 16 bits.
abbrev IsSmall : What → Type 0
IsSmall (word text) = Unit {0}
IsSmall (number value) = value < 2 ^ 16
IsSmall (quoted text) = Unit {0}
IsSmall (sign byte) = Unit {0}

abbrev AreSmall : List Lexeme → Type 0
AreSmall ts = AllByRecursion (λ (t : Lexeme). IsSmall t.what) ts

small_class : (class : TokenClass) (text : List ℕ) → IsNumberInRange class → IsSmall (what_of class text)
small_class Word text within = tt
small_class (Number value) text within = omega arith
small_class Text text within = tt
small_class (Sign byte) text within = tt

small_tokens : (source : List ℕ) (tokens : List Token) → All (LiesIn source) tokens → AreSmall (lexemes_of source tokens)
small_tokens source [] lie = tt
small_tokens source (t ∷ tokens) lie =
    let here = All-head (LiesIn source) t tokens lie in
    (small_class t.class (token_text source t) here.longest.in_range, small_tokens source tokens (All-tail (LiesIn source) t tokens lie))

name_by : (text : List ℕ) (b : Bool) (spot : Spot) (said : List ℕ × Spot) → is_name text ≡ b → option_map (λ (t : List ℕ). (t, spot)) (if b then Some text else None) ≡ Some said → is_name said.0 ≡ true
name_by text true spot said is e =
    let same : (text, spot) ≡ said = cc e in
    subst (λ (p : List ℕ × Spot). is_name p.0 ≡ true) same is
name_by text false spot said is e = absurd (cc e)

-- What is read as a name is one.
name_spelled : (what : What) (spot : Spot) (said : List ℕ × Spot) → option_map (λ (t : List ℕ). (t, spot)) (name_in what) ≡ Some said → is_name said.0 ≡ true
name_spelled (word text) spot said e = name_by text (is_name text) spot said (λ i. is_name text) e
name_spelled (number value) spot said e = absurd (cc e)
name_spelled (quoted text) spot said e = absurd (cc e)
name_spelled (sign byte) spot said e = absurd (cc e)

-- What is read as a number has 16 bits.
number_small : (what : What) (spot : Spot) (said : ℕ × Spot) → IsSmall what → option_map (λ (n : ℕ). (n, spot)) (number_in what) ≡ Some said → said.0 < 2 ^ 16
number_small (word text) spot said small e = absurd (cc e)
number_small (number value) spot said small e =
    let same : (value, spot) ≡ said = cc e in
    subst (λ (p : ℕ × Spot). p.0 < 2 ^ 16) same small
number_small (quoted text) spot said small e = absurd (cc e)
number_small (sign byte) spot said small e = absurd (cc e)

-- ---- forms

-- Of small tokens the form says only what is so, and small ones are left.
record Keeps {A : Type 0} (form : Grammar Lexeme A) (IsSo : A → Type 0) : Type 0 where
  keeps : (ts : List Lexeme) (a : A) (rest : List Lexeme) → AreSmall ts → form.reads ts a rest → AreSmall rest × IsSo a

-- Nothing is wanted of what is said.
abbrev Any : {A : Type 0} → A → Type 0
Any a = Unit {0}

keeps_token : {A : Type 0} (meant : Lexeme → Option A) (IsSo : A → Type 0) → ((t : Lexeme) (a : A) → IsSmall t.what → meant t ≡ Some a → IsSo a) → Keeps (token meant) IsSo
keeps_token meant IsSo so = record {
  keeps = λ ts a rest small one.
      let there = subst AreSmall one.is small in
      (there.1, so one.first a there.0 one.means);
}

keeps_any : {A : Type 0} (meant : Lexeme → Option A) → Keeps (token meant) Any
keeps_any meant = keeps_token meant Any (λ t a small means. tt)

keeps_two : {A B : Type 0} {f : Grammar Lexeme A} {g : Grammar Lexeme B} {P : A → Type 0} {Q : B → Type 0} → Keeps f P → Keeps g Q → Keeps (two f g) (λ (p : A × B). P p.0 × Q p.1)
keeps_two kf kg = record {
  keeps = λ ts p rest small read.
      let first = kf.keeps ts p.0 read.between small read.first in
      let second = kg.keeps read.between p.1 rest first.0 read.second in
      (second.0, (first.1, second.1));
}

keeps_either : {A : Type 0} {f g : Grammar Lexeme A} {P : A → Type 0} → Keeps f P → Keeps g P → Keeps (either f g) P
keeps_either kf kg = record {
  keeps = λ ts a rest small read. elim read [
    | inl first ↦ kf.keeps ts a rest small first
    | inr second ↦ kg.keeps ts a rest small second
  ];
}

keeps_made : {A B : Type 0} {f : Grammar Lexeme A} {P : A → Type 0} (make : A → B) (Q : B → Type 0) → ((a : A) → P a → Q (make a)) → Keeps f P → Keeps (made make f) Q
keeps_made make Q so kf = record {
  keeps = λ ts b rest small read.
      let kept = kf.keeps ts read.said rest small read.reads in
      (kept.0, subst Q (sym read.is) (so read.said kept.1));
}

module _ {A B : Type 0} {f : Grammar Lexeme A} {g : Grammar Lexeme B} {P : A → Type 0} {Q : B → Type 0} (kf : Keeps f P) (kg : Keeps g Q) where
  keeps_items : (items : List A) (ts rest : List Lexeme) → AreSmall ts → Repeats f ts items rest → AreSmall rest × AllByRecursion P items
  keeps_items [] ts rest small same = (subst AreSmall same small, tt)
  keeps_items (a ∷ items) ts rest small (between, read, more) =
      let first = kf.keeps ts a between small read in
      let others = keeps_items items between rest first.0 more in
      (others.0, (first.1, others.1))

  keeps_many : Keeps (many f g) (λ (p : List A × B). AllByRecursion P p.0 × Q p.1)
  keeps_many = record {
    keeps = λ ts p rest small read.
        let items = keeps_items p.0 ts read.between small read.items in
        let last = kg.keeps read.between p.1 rest items.0 read.last in
        (last.0, (items.1, last.1));
  }

keeps_ended : Keeps at_end Any
keeps_ended = record { keeps = λ ts a rest small read. (subst AreSmall (sym read.1) tt, tt) }

keeps_nothing : Keeps nothing (Any {A = TypeTree})
keeps_nothing = record { keeps = λ ts a rest small read. absurd read }

-- ---- the grammar

keeps_name : Keeps (token a_name) (λ (p : List ℕ × Spot). is_name p.0 ≡ true)
keeps_name = keeps_token a_name (λ p. is_name p.0 ≡ true) (λ t p small means. name_spelled t.what t.spot p means)

keeps_number : Keeps (token a_number) (λ (p : ℕ × Spot). p.0 < 2 ^ 16)
keeps_number = keeps_token a_number (λ p. p.0 < 2 ^ 16) (λ t p small means. number_small t.what t.spot p small means)

keeps_held : (inner : Grammar Lexeme TypeTree) → Keeps inner Any → Keeps (held_of inner) Any
keeps_held inner k =
    keeps_made (λ p. trees.held p.0.0 p.1.1.0 p.0.1) Any (λ p so. tt) (keeps_two (keeps_any a_holding) (keeps_two (keeps_any (this_sign 60)) (keeps_two k (keeps_any (this_sign 62)))))

keeps_map : (inner : Grammar Lexeme TypeTree) → Keeps inner Any → Keeps (map_of inner) Any
keeps_map inner k =
    keeps_made (λ p. trees.map p.1.1.0 p.1.1.1.1.0 p.0) Any (λ p so. tt)
    (keeps_two (keeps_any (this_word (codes "map"))) (keeps_two (keeps_any (this_sign 60)) (keeps_two k (keeps_two (keeps_any (this_sign 44)) (keeps_two k (keeps_any (this_sign 62)))))))

keeps_type : (n : ℕ) → Keeps (a_type n) Any
unfolding a_type
keeps_type zero = keeps_nothing
keeps_type (suc n) = keeps_either (keeps_any a_leaf) (keeps_either (keeps_held (a_type n) (keeps_type n)) (keeps_map (a_type n) (keeps_type n)))

keeps_bag_field : (n : ℕ) → Keeps (a_bag_field n) IsSpelledField
keeps_bag_field n =
    keeps_made (λ p. record { kind = p.0; name = p.1.0.0; name_at = p.1.0.1; number = p.1.1.1.0.0; number_at = p.1.1.1.0.1 }) IsSpelledField
    (λ p so. (so.1.0, so.1.1.1.0))
    (keeps_two (keeps_type n) (keeps_two keeps_name (keeps_two (keeps_any (this_sign 61)) (keeps_two keeps_number (keeps_any (this_sign 59))))))

keeps_struct_field : (n : ℕ) → Keeps (a_struct_field n) Any
keeps_struct_field n =
    keeps_made (λ p. record { kind = p.0; name = p.1.0.0; name_at = p.1.0.1 }) Any (λ p so. tt) (keeps_two (keeps_type n) (keeps_two keeps_name (keeps_any (this_sign 59))))

keeps_bag_fields : (n : ℕ) → Keeps (bag_fields n) (AllByRecursion IsSpelledField)
keeps_bag_fields n = keeps_made (λ p. p.0) (AllByRecursion IsSpelledField) (λ p so. so.0) (keeps_many (keeps_bag_field n) (keeps_any (this_sign 125)))

keeps_struct_fields : (n : ℕ) → Keeps (struct_fields n) Any
keeps_struct_fields n = keeps_made (λ p. p.0) Any (λ p so. tt) (keeps_many (keeps_struct_field n) (keeps_any (this_sign 125)))

keeps_bag : (n : ℕ) → Keeps (a_bag n) IsSpelledDecl
keeps_bag n =
    keeps_made (λ p. Bag p.1.0.0 p.1.0.1 p.1.1.1) IsSpelledDecl (λ p so. so.1.1.1)
    (keeps_two (keeps_any (this_word (codes "bag"))) (keeps_two keeps_name (keeps_two (keeps_any (this_sign 123)) (keeps_bag_fields n))))

keeps_struct : (n : ℕ) → Keeps (a_struct n) IsSpelledDecl
keeps_struct n =
    keeps_made (λ p. Struct p.1.0.0 p.1.0.1 p.1.1.1) IsSpelledDecl (λ p so. tt)
    (keeps_two (keeps_any (this_word (codes "struct"))) (keeps_two keeps_name (keeps_two (keeps_any (this_sign 123)) (keeps_struct_fields n))))

keeps_import : Keeps an_import Any
keeps_import =
    keeps_made (λ p. record { file = p.1.0.0; at = p.1.0.1 }) Any (λ p so. tt) (keeps_two (keeps_any (this_word (codes "import"))) (keeps_two (keeps_any a_text) (keeps_any (this_sign 59))))

keeps_decls : (n : ℕ) → Keeps (the_decls n) AreSpelledDecls
keeps_decls n = keeps_made (λ p. p.0) AreSpelledDecls (λ p so. so.0) (keeps_many (keeps_either (keeps_bag n) (keeps_struct n)) keeps_ended)

keeps_module : (n : ℕ) → Keeps (a_module n) (λ (m : Module). AreSpelledDecls m.decls)
keeps_module n =
    keeps_made (λ p. record { imports = p.0; decls = p.1 }) (λ (m : Module). AreSpelledDecls m.decls) (λ p so. so.1) (keeps_many keeps_import (keeps_decls n))

-- What a source says is spelled.
says_spelled : (source : List ℕ) (m : Module) → SaysModule source m → AreSpelledDecls m.decls
says_spelled source m says =
    ((keeps_module NESTING_MAX).keeps (lexemes_of source says.tokens) m [] (small_tokens source says.tokens (tokens_lie source says.tokens says.are)) says.says).1

-- ---- files

abbrev IsSpelledFile : LoadedFile → Type 0
IsSpelledFile file = AreSpelledDecls file.module.decls

abbrev AreSpelledFiles : List LoadedFile → Type 0
AreSpelledFiles files = All IsSpelledFile files

-- The files that loading comes to are spelled.
abbrev EndsSpelled : Loading → Type 0
EndsSpelled (all_loaded files) = AreSpelledFiles files
EndsSpelled (stopped names fault) = Unit {0}

mutual
  enters_spelled : (held : Holding) (taking : List (List ℕ)) (files : List LoadedFile) (name source : List ℕ) (outcome : Loading) → AreSpelledFiles files → Enters held taking files name source outcome → EndsSpelled outcome
  enters_spelled held taking files name source _ spelled (Enters.broken _ _ _ _ finding fault) = tt
  enters_spelled held taking files name source _ spelled (Enters.read _ _ _ _ m outcome says takes) =
      let one = All-cons IsSpelledFile (loaded_as name m) [] (says_spelled source m says) (All-nil IsSpelledFile) in
      takes_spelled held (taking ++ name ∷ []) (files ++ loaded_as name m ∷ []) name m.imports outcome (All-append IsSpelledFile files (loaded_as name m ∷ []) spelled one) takes

  takes_spelled : (held : Holding) (taking : List (List ℕ)) (files : List LoadedFile) (from : List ℕ) (imports : List Import) (outcome : Loading) → AreSpelledFiles files → Takes held taking files from imports outcome → EndsSpelled outcome
  takes_spelled held taking files from _ _ spelled (Takes.none_left _ _ _) = spelled
  takes_spelled held taking files from _ _ spelled (Takes.cycle _ _ _ import rest c) = tt
  takes_spelled held taking files from _ _ spelled (Takes.known _ _ _ import rest outcome c k takes) = takes_spelled held taking files from rest outcome spelled takes
  takes_spelled held taking files from _ _ spelled (Takes.too_many _ _ _ import rest c k most) = tt
  takes_spelled held taking files from _ _ spelled (Takes.missing _ _ _ import rest fetched none) = tt
  takes_spelled held taking files from _ _ spelled (Takes.within _ _ _ source import rest names fault fetched is enters) = tt
  takes_spelled held taking files from _ _ spelled (Takes.fetched _ _ more _ source import rest outcome fetched is enters takes) =
      takes_spelled held taking more from rest outcome (enters_spelled held taking files import.file source (all_loaded more) spelled enters) takes

loads_spelled : (held : Holding) (root : List ℕ) (outcome : Loading) → Loads held root outcome → EndsSpelled outcome
loads_spelled held root outcome (Loads.no_root none is) = subst EndsSpelled (sym is) tt
loads_spelled held root outcome (Loads.from_root source is enters) = enters_spelled held [] [] root source outcome (All-nil IsSpelledFile) enters

-- The table of a definition is a table.
pub table_of_definition : (held : Holding) (root name : List ℕ) (table : Nodes) → IsTableOf held root name table → IsTable table
table_of_definition held root name table is =
    chosen_table (all_placed is.files) name is.table.table.bag table is.table.sound.declared
    (all_spelled is.files (loads_spelled held root (all_loaded is.files) is.loaded)) is.table.table.chosen is.table.table.fits
