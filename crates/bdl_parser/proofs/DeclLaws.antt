-- Fields up to their brace, declarations up to the end, and a module.
use Rattle.std.proofs.Common.{◌≡◌, ℕ, suc, ◌+◌, ◌<◌, Bool, true, false, ◌||◌, List, [], ◌∷◌, ◌++◌, length, codes, refl, sym, ap, subst, arith, length-append}
use Rattle.std.specs.Option.{is_some}
use Rattle.bdl_parser.specs.declared.TheConstants.{NESTING_MAX}
use Rattle.outside.specs.declared.answers.OrMemory.{OrMemory}
use Rattle.bdl_parser.specs.declared.ParseCode.{ParseCode}
use Rattle.bdl_parser.specs.declared.ParseCode.TheVariants.{Expected, TypeNesting}
use Rattle.outside.specs.declared.answers.OrMemory.TheVariants.{Fault, Memory}
use Rattle.bdl_parser.specs.declared.trees.Decl.{Decl}
use Rattle.bdl_parser.specs.declared.trees.Import.{Import}
use Rattle.bdl_parser.specs.declared.trees.Module.{Module}
use Rattle.bdl_parser.specs.declared.trees.Spot.{Spot}
use Rattle.bdl_parser.specs.Grammar.{this_word, this_sign, a_type, a_bag, a_struct, a_decl, an_import, the_decls, a_module}
use Rattle.bdl_parser.specs.Lexemes.{Lexeme}
use Rattle.bdl_parser.specs.Refusals.{meets, IsFormRefused, is_type_first}
use Rattle.grammar_model.specs.Grammars.{Grammar, IsOne, token, made, Repeats, many, at_end}
use Rattle.grammar_model.specs.Stops.{first_passes, Taken}
use Rattle.grammar_model.proofs.FormLaws.{IsLawful, IsEnder, ender_of}
use Rattle.grammar_model.proofs.ChoiceLaws.{ender_ended}
use Rattle.grammar_model.proofs.Growth.{Grows, grows_same}
use Rattle.grammar_model.proofs.StopLaws.{not_here, not_here_apart, stops_here}
use Rattle.bdl_parser.proofs.Families.{Family, one, repeat_until, AreLawful, AreNotHere, TakenItems, taken_token, taken_made, refused_made, refused_left, refused_right, taken_many, item_refused, last_refused}
use Rattle.bdl_parser.proofs.GrammarLaws.{law_token, type_or_mark, lawful_bag, lawful_struct, bag_apart, is_decl_first, lawful_decl, lawful_import, never, decl_apart, ender_decls, is_decl_or_never, import_apart, grows_type, grows_decl}

-- what is read is shorter than where it was read
pub read_shorter : {A : Type 0} (f : Grammar Lexeme A) (first : Lexeme → Bool) → IsLawful f first → (ts : List Lexeme) (a : A) (rest : List Lexeme) → f.reads ts a rest → length rest < length ts
read_shorter f first law ts a rest r =
    let it = law.framed ts a rest r in
    let start = law.read_starts (it.front ++ []) a [] (it.again []) in
    omega (arith, ap length it.cut, length-append it.front rest, ap length start.is, length-append it.front [])

types_grow : (room : ℕ) → Grows (a_type room) (a_type (room + 1))
types_grow room = let e : suc room ≡ room + 1 = omega arith in subst (λ m. Grows (a_type room) (a_type m)) e (grows_type room)

no_brace : (ts : List Lexeme) → meets (this_sign 125) ts ≡ false → AreNotHere (one (this_sign 125)) ts
no_brace ts e n = not_here (token (this_sign 125)) (λ t. is_some (this_sign 125 t)) (law_token (this_sign 125)) ts e

brace_ender : (n : ℕ) → IsEnder (token (this_sign 125)) (λ t. is_some (this_sign 125 t))
brace_ender n = ender_of (token (this_sign 125)) (λ t. is_some (this_sign 125 t)) (law_token (this_sign 125))

module _ {A : Type 0} (F : Family A) (lawful : AreLawful F is_type_first) (grows : (n m : ℕ) → Grows (a_type n) (a_type m) → Grows (F n) (F m)) where
  pub fields_item : (room : ℕ) (items : List A) (e : OrMemory ParseCode) (ts mid bad : List Lexeme) → TakenItems F room ts items mid → meets (this_sign 125) mid ≡ false → IsFormRefused F room e mid bad → IsFormRefused (λ n. made (λ (p : List A × Spot). p.0) (many (F n) (token (this_sign 125)))) room e ts bad
  fields_item room items e ts mid bad so_far open_ r =
      refused_made (λ (p : List A × Spot). p.0) (repeat_until F (one (this_sign 125))) room e ts bad
      (item_refused F (one (this_sign 125)) room is_type_first (λ t. is_some (this_sign 125 t)) lawful brace_ender (type_or_mark 125) (grows room (room + 1) (types_grow room)) items e ts mid bad so_far (no_brace mid open_) r)

  pub fields_taken : (room : ℕ) (items : List A) (ts mid rest : List Lexeme) (spot : Spot) → TakenItems F room ts items mid → IsOne (this_sign 125) mid spot rest → Taken (λ n. made (λ (p : List A × Spot). p.0) (many (F n) (token (this_sign 125)))) room ts items rest
  fields_taken room items ts mid rest spot so_far end =
      taken_made (λ (p : List A × Spot). p.0) (repeat_until F (one (this_sign 125))) room ts (items, spot) rest
      (taken_many F (one (this_sign 125)) room items ts mid spot rest so_far (taken_token (this_sign 125) room mid spot rest end))

-- a bag or a struct

abbrev bag_test : Lexeme → Bool
bag_test t = is_some (this_word (codes "bag") t)

abbrev struct_test : Lexeme → Bool
struct_test t = is_some (this_word (codes "struct") t)

no_struct : (ts : List Lexeme) → meets (this_word (codes "bag")) ts ≡ true → AreNotHere a_struct ts
no_struct ts e n =
    not_here_apart (a_struct n) bag_test struct_test (ender_of (a_struct n) struct_test (lawful_struct n)) bag_apart ts e

no_bag : (ts : List Lexeme) → meets (this_word (codes "struct")) ts ≡ true → AreNotHere a_bag ts
no_bag ts e n =
    not_here_apart (a_bag n) struct_test bag_test (ender_of (a_bag n) bag_test (lawful_bag n)) (λ t p q. bag_apart t q p) ts e

pub decl_bag : (room : ℕ) (e : OrMemory ParseCode) (ts bad : List Lexeme) → meets (this_word (codes "bag")) ts ≡ true → IsFormRefused a_bag room e ts bad → IsFormRefused a_decl room e ts bad
decl_bag room e ts bad here r = refused_left a_bag a_struct room e ts bad (no_struct ts here) r

pub decl_struct : (room : ℕ) (e : OrMemory ParseCode) (ts bad : List Lexeme) → meets (this_word (codes "struct")) ts ≡ true → IsFormRefused a_struct room e ts bad → IsFormRefused a_decl room e ts bad
decl_struct room e ts bad here r = refused_right a_bag a_struct room e ts bad (no_bag ts here) r

none_of_two : (ts : List Lexeme) → meets (this_word (codes "bag")) ts ≡ false → meets (this_word (codes "struct")) ts ≡ false → first_passes is_decl_first ts ≡ false
none_of_two [] p q = refl
none_of_two (t ∷ ts) p q = λ i. p i || q i

pub no_decl : (room : ℕ) (ts : List Lexeme) → meets (this_word (codes "bag")) ts ≡ false → meets (this_word (codes "struct")) ts ≡ false → IsFormRefused a_decl room (Fault Expected) ts ts
no_decl room ts p q = λ n le. stops_here (a_decl n) is_decl_first (lawful_decl n) ts (none_of_two ts p q)

-- declarations to the end

abbrev the_end : Family (Unit {0})
the_end n = at_end

not_ended : (ts : List Lexeme) → 0 < length ts → AreNotHere the_end ts
not_ended [] some n = absurd (omega arith)
not_ended (t ∷ ts) some n = record {
  begun = λ u rest more is b. let w : u ∷ more ≡ [] = b in cc;
  read = λ more a rest r. let w : t ∷ more ≡ [] = r.0 in cc;
}

pub decls_item : (room : ℕ) (items : List Decl) (e : OrMemory ParseCode) (ts mid bad : List Lexeme) → TakenItems a_decl room ts items mid → 0 < length mid → IsFormRefused a_decl room e mid bad → IsFormRefused the_decls room e ts bad
decls_item room items e ts mid bad so_far some r =
    refused_made (λ (p : List Decl × Unit {0}). p.0) (repeat_until a_decl the_end) room e ts bad
    (item_refused a_decl the_end room is_decl_first never lawful_decl (λ n. ender_ended) decl_apart (grows_decl room (room + 1) (types_grow room)) items e ts mid bad so_far (not_ended mid some) r)

pub decls_taken : (room : ℕ) (items : List Decl) (ts mid : List Lexeme) → TakenItems a_decl room ts items mid → length mid ≡ 0 → Taken the_decls room ts items []
decls_taken room items ts [] so_far none =
    taken_made (λ (p : List Decl × Unit {0}). p.0) (repeat_until a_decl the_end) room ts (items, tt) []
    (taken_many a_decl the_end room items ts [] tt [] so_far (λ n le. (refl, refl)))
decls_taken room items ts (t ∷ mid) so_far none = absurd (omega arith)

-- imports

abbrev import_test : Lexeme → Bool
import_test t = is_some (this_word (codes "import") t)

abbrev the_import : Family Import
the_import n = an_import

no_decls : (ts : List Lexeme) → meets (this_word (codes "import")) ts ≡ true → AreNotHere the_decls ts
no_decls ts e n = not_here_apart (the_decls n) import_test is_decl_or_never (ender_decls n) import_apart ts e

no_import : (ts : List Lexeme) → meets (this_word (codes "import")) ts ≡ false → AreNotHere the_import ts
no_import ts e n = not_here an_import import_test lawful_import ts e

-- an import is refused whatever the room
any_room : (room : ℕ) (e : OrMemory ParseCode) (ts bad : List Lexeme) → IsFormRefused the_import 0 e ts bad → IsFormRefused the_import room e ts bad
any_room room (Fault Expected) ts bad r = λ n le. r n (omega arith)
any_room room (Fault TypeNesting) ts bad r = r
any_room room Memory ts bad r = tt

pub imports_item : (room : ℕ) (items : List Import) (e : OrMemory ParseCode) (ts mid bad : List Lexeme) → Repeats an_import ts items mid → meets (this_word (codes "import")) mid ≡ true → IsFormRefused the_import 0 e mid bad → IsFormRefused (λ n. many an_import (the_decls n)) room e ts bad
imports_item room items e ts mid bad so_far here r =
    item_refused the_import the_decls room import_test is_decl_or_never (λ n. lawful_import) ender_decls import_apart (grows_same an_import) items e ts mid bad (λ n le. so_far) (no_decls mid here) (any_room room e mid bad r)

repeats_more : (items : List Import) (ts mid rest : List Lexeme) (a : Import) → Repeats an_import ts items mid → an_import.reads mid a rest → Repeats an_import ts (items ++ a ∷ []) rest
repeats_more [] ts mid rest a e r = (rest, subst (λ xs. an_import.reads xs a rest) (sym e) r, refl)
repeats_more (x ∷ items) ts mid rest a e r = (e.0, e.1, repeats_more items e.0 mid rest a e.2 r)

pub imports_more : (items : List Import) (ts mid rest : List Lexeme) (a : Import) → Repeats an_import ts items mid → Taken the_import 0 mid a rest → Repeats an_import ts (items ++ a ∷ []) rest
imports_more items ts mid rest a e r = repeats_more items ts mid rest a e (r 0 (omega arith))

-- a module

abbrev module_make : List Import × List Decl → Module
module_make p = record { imports = p.0; decls = p.1 }

pub module_imports : (e : OrMemory ParseCode) (ts bad : List Lexeme) → IsFormRefused (λ n. many an_import (the_decls n)) NESTING_MAX e ts bad → IsFormRefused a_module NESTING_MAX e ts bad
module_imports e ts bad r = refused_made module_make (repeat_until the_import the_decls) NESTING_MAX e ts bad r

pub module_decls : (items : List Import) (e : OrMemory ParseCode) (ts mid bad : List Lexeme) → Repeats an_import ts items mid → meets (this_word (codes "import")) mid ≡ false → IsFormRefused the_decls NESTING_MAX e mid bad → IsFormRefused a_module NESTING_MAX e ts bad
module_decls items e ts mid bad so_far none r =
    refused_made module_make (repeat_until the_import the_decls) NESTING_MAX e ts bad
    (last_refused the_import the_decls NESTING_MAX import_test is_decl_or_never (λ n. lawful_import) ender_decls import_apart (grows_same an_import) items e ts mid bad (λ n le. so_far) (no_import mid none) r)

pub module_taken : (items : List Import) (decls : List Decl) (ts mid : List Lexeme) → Repeats an_import ts items mid → Taken the_decls NESTING_MAX mid decls [] → Taken a_module NESTING_MAX ts (record { imports = items; decls = decls }) []
module_taken items decls ts mid so_far t =
    taken_made module_make (repeat_until the_import the_decls) NESTING_MAX ts (items, decls) []
    (taken_many the_import the_decls NESTING_MAX items ts mid decls [] (λ n le. so_far) t)
