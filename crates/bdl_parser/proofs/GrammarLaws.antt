-- Each form of the grammar keeps the laws of forms.
use Rattle.std.proofs.Common.{◌≡◌, ℕ, zero, suc, Bool, true, false, cond, ◌||◌, Option, None, Some, List, [], ◌⊎◌, inl, inr, codes, refl, sym, ap, ◌∙◌, subst}
use Rattle.std.specs.Option.{is_some, option_map}
use Rattle.std.specs.Str.{bytes_eq}
use Rattle.std.proofs.lemmas.Slice.Eq.{bytes_eq-Decides}
use Rattle.bag_model.specs.Words.{reserved_of}
use Rattle.bdl_parser.specs.declared.trees.Decl.{Decl}
use Rattle.bdl_parser.specs.declared.trees.Holding.{Holding}
use Rattle.bdl_parser.specs.declared.trees.Holding.TheVariants.{AsSet, AsGreatest}
use Rattle.bdl_parser.specs.declared.trees.Spot.{Spot}
use Rattle.bdl_parser.specs.Grammar.{is_this_word, is_this_sign, this_word, this_sign, a_name, a_number, a_text, a_leaf, leaf_in, holding_in, a_holding, held_of, map_of, a_type, a_bag_field, a_struct_field, bag_fields, struct_fields, a_bag, a_struct, a_decl, an_import, the_decls, a_module}
use Rattle.bdl_parser.specs.Lexemes.{What, Lexeme, word, number, quoted, sign}
use Rattle.bdl_parser.specs.Refusals.{is_type_first}
use Rattle.bdl_parser.specs.Trees.{Leaf, TypeTree}
use Rattle.bdl_parser.specs.Words.{leaf_of}
use Rattle.grammar_model.specs.Grammars.{Grammar, token, two, either, made, nothing, at_end}
use Rattle.grammar_model.proofs.ChoiceLaws.{lawful_either, lawful_many, ender_ended, ender_many}
use Rattle.grammar_model.proofs.FormLaws.{IsLawful, IsEnder, Apart, lawful_token, lawful_nothing, lawful_made, lawful_two}
use Rattle.grammar_model.proofs.Growth.{Grows, grows_same, grows_made, grows_two, grows_many, grows_either}

-- laws, whose forms are found from those of the parts
pub law_token : {A : Type 0} (meant : Lexeme → Option A) → IsLawful (token meant) (λ t. is_some (meant t))
law_token meant = lawful_token meant

pub law_two : {A B : Type 0} {f : Grammar Lexeme A} {g : Grammar Lexeme B} {first then_ : Lexeme → Bool} → IsLawful f first → IsLawful g then_ → IsLawful (two f g) first
law_two {f = f} {g = g} {first = first} {then_ = then_} lf lg = lawful_two f g first then_ lf lg

pub law_made : {A B : Type 0} (make : A → B) {f : Grammar Lexeme A} {first : Lexeme → Bool} → IsLawful f first → IsLawful (made make f) first
law_made make {f = f} {first = first} lf = lawful_made make f first lf

some_is : {A : Type 0} (b : Bool) (a : A) → is_some (cond b (Some a) None) ≡ b
some_is true a = refl
some_is false a = refl

key_is_word : (text : List ℕ) (t : Lexeme) → is_some (this_word text t) ≡ true → is_this_word text t.what ≡ true
key_is_word text t e = sym (some_is (is_this_word text t.what) t.spot) ∙ e

same_word : (text : List ℕ) (what : What) → is_this_word text what ≡ true → what ≡ word text
same_word text (word found) e = ap word ((bytes_eq-Decides found text).0 e)
same_word text (number value) e = absurd (let w : false ≡ true = e in cc)
same_word text (quoted found) e = absurd (let w : false ≡ true = e in cc)
same_word text (sign byte) e = absurd (let w : false ≡ true = e in cc)

-- a token that is a key says its word
pub key_says : (text : List ℕ) (t : Lexeme) → is_some (this_word text t) ≡ true → t.what ≡ word text
key_says text t e = same_word text t.what (key_is_word text t e)

word_of_mark : (byte : ℕ) (what : What) (text : List ℕ) → what ≡ word text → is_this_sign byte what ≡ true → ⊥
word_of_mark byte what text is e = let w : false ≡ true = ap (is_this_sign byte) (sym is) ∙ e in cc

mark_not_word : (byte : ℕ) (t : Lexeme) (text : List ℕ) → t.what ≡ word text → is_some (this_sign byte t) ≡ true → ⊥
mark_not_word byte t text is e = word_of_mark byte t.what text is (sym (some_is (is_this_sign byte t.what) t.spot) ∙ e)

-- two keys are one word
keys_apart : (a b : List ℕ) → bytes_eq a b ≡ false → Apart (λ t. is_some (this_word a t)) (λ t. is_some (this_word b t))
keys_apart a b differ t p q =
    let w : false ≡ true = sym differ ∙ ap (is_this_word b) (sym (key_says a t p)) ∙ key_is_word b t q in cc

or_three : (a b : Bool) → (a || b) ≡ true → (a ≡ true) ⊎ (b ≡ true)
or_three true b e = inl refl
or_three false b e = inr e

leaf_none : (t : Lexeme) (text : List ℕ) → is_some (leaf_of text) ≡ false → t.what ≡ word text → is_some (a_leaf t) ≡ true → ⊥
leaf_none t text none is e =
    let plain : is_some (leaf_in t.what) ≡ true = mapped (leaf_in t.what) ∙ e in
    let w : false ≡ true = sym none ∙ ap (λ x. is_some (leaf_in x)) (sym is) ∙ plain in cc
  where
    mapped : (o : Option Leaf) → is_some o ≡ is_some (option_map (λ found. Rattle.bdl_parser.specs.Trees.leaf found t.spot) o)
    mapped None = refl
    mapped (Some x) = refl

leaf_keys : (t : Lexeme) (text : List ℕ) → is_some (leaf_of text) ≡ false → is_some (a_leaf t) ≡ true → is_some (this_word text t) ≡ true → ⊥
leaf_keys t text none p q = leaf_none t text none (key_says text t q) p

set_no_leaf : is_some (leaf_of (codes "set")) ≡ false
unfolding reserved_of
set_no_leaf = refl

greatest_no_leaf : is_some (leaf_of (codes "greatest")) ≡ false
unfolding reserved_of
greatest_no_leaf = refl

map_no_leaf : is_some (leaf_of (codes "map")) ≡ false
unfolding reserved_of
map_no_leaf = refl

-- a word that holds elements is one of two
text_holds : (text : List ℕ) (one other : Bool) → one ≡ bytes_eq text (codes "set") → other ≡ bytes_eq text (codes "greatest") → is_some (cond one (Some AsSet) (cond other (Some AsGreatest) None)) ≡ true → (text ≡ codes "set") ⊎ (text ≡ codes "greatest")
text_holds text true other p q e = inl ((bytes_eq-Decides text (codes "set")).0 (sym p))
text_holds text false true p q e = inr ((bytes_eq-Decides text (codes "greatest")).0 (sym q))
text_holds text false false p q e = absurd (let w : false ≡ true = e in cc)

what_holds : (what : What) (spot : Spot) → is_some {T = Holding × Spot} (option_map (λ found. (found, spot)) (holding_in what)) ≡ true → (what ≡ word (codes "set")) ⊎ (what ≡ word (codes "greatest"))
what_holds (word text) spot e = by_text (text_holds text (bytes_eq text (codes "set")) (bytes_eq text (codes "greatest")) refl refl (mapped (holding_in (word text)) ∙ e))
  where
    by_text : (text ≡ codes "set") ⊎ (text ≡ codes "greatest") → (word text ≡ word (codes "set")) ⊎ (word text ≡ word (codes "greatest"))
    by_text (inl is) = inl (ap word is)
    by_text (inr is) = inr (ap word is)

    mapped : (o : Option Holding) → is_some o ≡ is_some {T = Holding × Spot} (option_map (λ found. (found, spot)) o)
    mapped None = refl
    mapped (Some x) = refl
what_holds (number value) spot e = absurd (let w : false ≡ true = e in cc)
what_holds (quoted text) spot e = absurd (let w : false ≡ true = e in cc)
what_holds (sign byte) spot e = absurd (let w : false ≡ true = e in cc)

-- a token that holds elements says one of two words
holding_says : (t : Lexeme) → is_some (a_holding t) ≡ true → (t.what ≡ word (codes "set")) ⊎ (t.what ≡ word (codes "greatest"))
holding_says t e = what_holds t.what t.spot e

leaf_held : (t : Lexeme) → is_some (a_leaf t) ≡ true → (t.what ≡ word (codes "set")) ⊎ (t.what ≡ word (codes "greatest")) → ⊥
leaf_held t p (inl is) = leaf_none t (codes "set") set_no_leaf is p
leaf_held t p (inr is) = leaf_none t (codes "greatest") greatest_no_leaf is p

by_either : (t : Lexeme) → is_some (a_leaf t) ≡ true → (is_some (a_holding t) ≡ true) ⊎ (is_some (this_word (codes "map") t) ≡ true) → ⊥
by_either t p (inl q) = leaf_held t p (holding_says t q)
by_either t p (inr q) = leaf_keys t (codes "map") map_no_leaf p q

pub leaf_apart : Apart (λ t. is_some (a_leaf t)) (λ t. is_some (a_holding t) || is_some (this_word (codes "map") t))
leaf_apart t p q = by_either t p (or_three (is_some (a_holding t)) (is_some (this_word (codes "map") t)) q)

held_is_map : (t : Lexeme) → is_some (this_word (codes "map") t) ≡ true → (t.what ≡ word (codes "set")) ⊎ (t.what ≡ word (codes "greatest")) → ⊥
held_is_map t q (inl is) =
    let w : false ≡ true = ap (is_this_word (codes "map")) (sym is) ∙ key_is_word (codes "map") t q in cc
held_is_map t q (inr is) =
    let w : false ≡ true = ap (is_this_word (codes "map")) (sym is) ∙ key_is_word (codes "map") t q in cc

pub held_apart : Apart (λ t. is_some (a_holding t)) (λ t. is_some (this_word (codes "map") t))
held_apart t p q = held_is_map t q (holding_says t p)

pub lawful_held : (inner : Grammar Lexeme TypeTree) → IsLawful inner is_type_first → IsLawful (held_of inner) (λ t. is_some (a_holding t))
lawful_held inner law =
    law_made (λ p. Rattle.bdl_parser.specs.Trees.held p.0.0 p.1.1.0 p.0.1) (law_two (law_token a_holding) (law_two (law_token (this_sign 60)) (law_two law (law_token (this_sign 62)))))

pub lawful_map : (inner : Grammar Lexeme TypeTree) → IsLawful inner is_type_first → IsLawful (map_of inner) (λ t. is_some (this_word (codes "map") t))
lawful_map inner law =
    law_made (λ p. Rattle.bdl_parser.specs.Trees.map p.1.1.0 p.1.1.1.1.0 p.0) (law_two (law_token (this_word (codes "map"))) (law_two (law_token (this_sign 60)) (law_two law (law_two (law_token (this_sign 44)) (law_two law (law_token (this_sign 62)))))))

pub lawful_type : (n : ℕ) → IsLawful (a_type n) is_type_first
unfolding a_type
lawful_type zero = lawful_nothing is_type_first
lawful_type (suc n) =
    lawful_either (token a_leaf) (either (held_of (a_type n)) (map_of (a_type n))) (λ t. is_some (a_leaf t)) (λ t. is_some (a_holding t) || is_some (this_word (codes "map") t))
    (law_token a_leaf)
    (lawful_either (held_of (a_type n)) (map_of (a_type n)) (λ t. is_some (a_holding t)) (λ t. is_some (this_word (codes "map") t)) (lawful_held (a_type n) (lawful_type n)) (lawful_map (a_type n) (lawful_type n)) held_apart)
    leaf_apart

-- a type begins with a word
leaf_word : (what : What) (spot : Spot) → is_some (option_map (λ found. Rattle.bdl_parser.specs.Trees.leaf found spot) (leaf_in what)) ≡ true → (text : List ℕ) × (what ≡ word text)
leaf_word (word text) spot e = (text, refl)
leaf_word (number value) spot e = absurd (let w : false ≡ true = e in cc)
leaf_word (quoted text) spot e = absurd (let w : false ≡ true = e in cc)
leaf_word (sign byte) spot e = absurd (let w : false ≡ true = e in cc)

held_word : (t : Lexeme) → (t.what ≡ word (codes "set")) ⊎ (t.what ≡ word (codes "greatest")) → (text : List ℕ) × (t.what ≡ word text)
held_word t (inl is) = (codes "set", is)
held_word t (inr is) = (codes "greatest", is)

keyed : (t : Lexeme) → (is_some (a_holding t) ≡ true) ⊎ (is_some (this_word (codes "map") t) ≡ true) → (text : List ℕ) × (t.what ≡ word text)
keyed t (inl e) = held_word t (holding_says t e)
keyed t (inr e) = (codes "map", key_says (codes "map") t e)

leaf_or_key : (t : Lexeme) → (is_some (a_leaf t) ≡ true) ⊎ ((is_some (a_holding t) || is_some (this_word (codes "map") t)) ≡ true) → (text : List ℕ) × (t.what ≡ word text)
leaf_or_key t (inl e) = leaf_word t.what t.spot e
leaf_or_key t (inr e) = keyed t (or_three (is_some (a_holding t)) (is_some (this_word (codes "map") t)) e)

pub type_word : (t : Lexeme) → is_type_first t ≡ true → (text : List ℕ) × (t.what ≡ word text)
type_word t e =
    leaf_or_key t (or_three (is_some (a_leaf t)) (is_some (a_holding t) || is_some (this_word (codes "map") t)) e)

pub type_or_mark : (byte : ℕ) → Apart is_type_first (λ t. is_some (this_sign byte t))
type_or_mark byte t p q = let it = type_word t p in mark_not_word byte t it.0 it.1 q

pub lawful_bag_field : (n : ℕ) → IsLawful (a_bag_field n) is_type_first
lawful_bag_field n =
    law_made (λ p. record { kind = p.0; name = p.1.0.0; name_at = p.1.0.1; number = p.1.1.1.0.0; number_at = p.1.1.1.0.1 })
    (law_two (lawful_type n) (law_two (law_token a_name) (law_two (law_token (this_sign 61)) (law_two (law_token a_number) (law_token (this_sign 59))))))

pub lawful_struct_field : (n : ℕ) → IsLawful (a_struct_field n) is_type_first
lawful_struct_field n =
    law_made (λ p. record { kind = p.0; name = p.1.0.0; name_at = p.1.0.1 }) (law_two (lawful_type n) (law_two (law_token a_name) (law_token (this_sign 59))))

abbrev pub first_or_brace : Lexeme → Bool
first_or_brace t = is_type_first t || is_some (this_sign 125 t)

pub lawful_bag_fields : (n : ℕ) → IsLawful (bag_fields n) first_or_brace
lawful_bag_fields n =
    law_made (λ p. p.0) (lawful_many (a_bag_field n) (token (this_sign 125)) is_type_first (λ t. is_some (this_sign 125 t)) (lawful_bag_field n) (law_token (this_sign 125)) (type_or_mark 125))

pub lawful_struct_fields : (n : ℕ) → IsLawful (struct_fields n) first_or_brace
lawful_struct_fields n =
    law_made (λ p. p.0) (lawful_many (a_struct_field n) (token (this_sign 125)) is_type_first (λ t. is_some (this_sign 125 t)) (lawful_struct_field n) (law_token (this_sign 125)) (type_or_mark 125))

pub lawful_bag : (n : ℕ) → IsLawful (a_bag n) (λ t. is_some (this_word (codes "bag") t))
lawful_bag n =
    law_made (λ p. Rattle.bdl_parser.specs.declared.trees.Decl.TheVariants.Bag p.1.0.0 p.1.0.1 p.1.1.1) (law_two (law_token (this_word (codes "bag"))) (law_two (law_token a_name) (law_two (law_token (this_sign 123)) (lawful_bag_fields n))))

pub lawful_struct : (n : ℕ) → IsLawful (a_struct n) (λ t. is_some (this_word (codes "struct") t))
lawful_struct n =
    law_made (λ p. Rattle.bdl_parser.specs.declared.trees.Decl.TheVariants.Struct p.1.0.0 p.1.0.1 p.1.1.1) (law_two (law_token (this_word (codes "struct"))) (law_two (law_token a_name) (law_two (law_token (this_sign 123)) (lawful_struct_fields n))))

pub bag_apart : Apart (λ t. is_some (this_word (codes "bag") t)) (λ t. is_some (this_word (codes "struct") t))
bag_apart = keys_apart (codes "bag") (codes "struct") refl

abbrev pub is_decl_first : Lexeme → Bool
is_decl_first t = is_some (this_word (codes "bag") t) || is_some (this_word (codes "struct") t)

pub lawful_decl : (n : ℕ) → IsLawful (a_decl n) is_decl_first
lawful_decl n =
    lawful_either (a_bag n) (a_struct n) (λ t. is_some (this_word (codes "bag") t)) (λ t. is_some (this_word (codes "struct") t)) (lawful_bag n) (lawful_struct n) bag_apart

pub lawful_import : IsLawful an_import (λ t. is_some (this_word (codes "import") t))
lawful_import =
    law_made (λ p. record { file = p.1.0.0; at = p.1.0.1 }) (law_two (law_token (this_word (codes "import"))) (law_two (law_token a_text) (law_token (this_sign 59))))

abbrev pub never : Lexeme → Bool
never t = false

pub decl_apart : Apart is_decl_first never
decl_apart t p q = let w : false ≡ true = q in cc

ender_made : {A B : Type 0} (make : A → B) {f : Grammar Lexeme A} {first : Lexeme → Bool} → IsEnder f first → IsEnder (made make f) first
ender_made make law = record {
  one = λ ts a b rest left r s.
      let same = law.one ts r.said s.said rest left r.reads s.reads in
      (r.is ∙ ap make same.0 ∙ sym s.is, same.1);
  read_first = λ t more a rest r. law.read_first t more r.said rest r.reads;
  begun_starts = law.begun_starts;
  empty = law.empty;
}

abbrev pub is_decl_or_never : Lexeme → Bool
is_decl_or_never t = is_decl_first t || never t

pub ender_decls : (n : ℕ) → IsEnder (the_decls n) is_decl_or_never
ender_decls n = ender_made (λ p. p.0) (ender_many (a_decl n) at_end is_decl_first never (lawful_decl n) ender_ended decl_apart)

by_decl : (t : Lexeme) → is_some (this_word (codes "import") t) ≡ true → (is_some (this_word (codes "bag") t) ≡ true) ⊎ (is_some (this_word (codes "struct") t) ≡ true) → ⊥
by_decl t p (inl q) = keys_apart (codes "import") (codes "bag") refl t p q
by_decl t p (inr q) = keys_apart (codes "import") (codes "struct") refl t p q

import_or_decl : (t : Lexeme) → is_some (this_word (codes "import") t) ≡ true → (is_decl_first t ≡ true) ⊎ (never t ≡ true) → ⊥
import_or_decl t p (inl q) = by_decl t p (or_three (is_some (this_word (codes "bag") t)) (is_some (this_word (codes "struct") t)) q)
import_or_decl t p (inr q) = let w : false ≡ true = q in cc

pub import_apart : Apart (λ t. is_some (this_word (codes "import") t)) is_decl_or_never
import_apart t p q = import_or_decl t p (or_three (is_decl_first t) (never t) q)

pub ender_module : (n : ℕ) → IsEnder (a_module n) (λ t. is_some (this_word (codes "import") t) || is_decl_or_never t)
ender_module n =
    ender_made (λ p. record { imports = p.0; decls = p.1 }) (ender_many an_import (the_decls n) (λ t. is_some (this_word (codes "import") t)) is_decl_or_never lawful_import (ender_decls n) import_apart)

-- more room reads and begins more

g_two : {A B : Type 0} {f wide : Grammar Lexeme A} {g broad : Grammar Lexeme B} → Grows f wide → Grows g broad → Grows (two f g) (two wide broad)
g_two {f = f} {wide = wide} {g = g} {broad = broad} gf gg = grows_two f wide g broad gf gg

g_same : {A : Type 0} (meant : Lexeme → Option A) → Grows (token meant) (token meant)
g_same meant = grows_same (token meant)

g_made : {A B : Type 0} (make : A → B) {f wide : Grammar Lexeme A} → Grows f wide → Grows (made make f) (made make wide)
g_made make {f = f} {wide = wide} gf = grows_made make f wide gf

grows_held : (f wide : Grammar Lexeme TypeTree) → Grows f wide → Grows (held_of f) (held_of wide)
grows_held f wide g =
    g_made (λ p. Rattle.bdl_parser.specs.Trees.held p.0.0 p.1.1.0 p.0.1) (g_two (g_same a_holding) (g_two (g_same (this_sign 60)) (g_two g (g_same (this_sign 62)))))

grows_map : (f wide : Grammar Lexeme TypeTree) → Grows f wide → Grows (map_of f) (map_of wide)
grows_map f wide g =
    g_made (λ p. Rattle.bdl_parser.specs.Trees.map p.1.1.0 p.1.1.1.1.0 p.0) (g_two (g_same (this_word (codes "map"))) (g_two (g_same (this_sign 60)) (g_two g (g_two (g_same (this_sign 44)) (g_two g (g_same (this_sign 62)))))))

grows_nothing : (wide : Grammar Lexeme TypeTree) → wide.begins [] → Grows nothing wide
grows_nothing wide empty = record { read = λ ts a rest r. absurd r; begun = λ ts b. subst wide.begins (sym b) empty }

pub grows_type : (n : ℕ) → Grows (a_type n) (a_type (suc n))
unfolding a_type
grows_type zero = grows_nothing (a_type (suc zero)) (lawful_type (suc zero)).empty
grows_type (suc n) =
    grows_either (token a_leaf) (either (held_of (a_type n)) (map_of (a_type n))) (token a_leaf) (either (held_of (a_type (suc n))) (map_of (a_type (suc n))))
    (g_same a_leaf)
    (grows_either (held_of (a_type n)) (map_of (a_type n)) (held_of (a_type (suc n))) (map_of (a_type (suc n))) (grows_held (a_type n) (a_type (suc n)) (grows_type n)) (grows_map (a_type n) (a_type (suc n)) (grows_type n)))

pub grows_bag_field : (n m : ℕ) → Grows (a_type n) (a_type m) → Grows (a_bag_field n) (a_bag_field m)
grows_bag_field n m g =
    g_made (λ p. record { kind = p.0; name = p.1.0.0; name_at = p.1.0.1; number = p.1.1.1.0.0; number_at = p.1.1.1.0.1 })
    (g_two g (g_two (g_same a_name) (g_two (g_same (this_sign 61)) (g_two (g_same a_number) (g_same (this_sign 59))))))

pub grows_struct_field : (n m : ℕ) → Grows (a_type n) (a_type m) → Grows (a_struct_field n) (a_struct_field m)
grows_struct_field n m g =
    g_made (λ p. record { kind = p.0; name = p.1.0.0; name_at = p.1.0.1 }) (g_two g (g_two (g_same a_name) (g_same (this_sign 59))))

grows_bag : (n m : ℕ) → Grows (a_type n) (a_type m) → Grows (a_bag n) (a_bag m)
grows_bag n m g =
    g_made (λ p. Rattle.bdl_parser.specs.declared.trees.Decl.TheVariants.Bag p.1.0.0 p.1.0.1 p.1.1.1)
    (g_two (g_same (this_word (codes "bag"))) (g_two (g_same a_name) (g_two (g_same (this_sign 123)) (g_made (λ p. p.0) (grows_many (a_bag_field n) (a_bag_field m) (token (this_sign 125)) (token (this_sign 125)) (grows_bag_field n m g) (g_same (this_sign 125)))))))

grows_struct : (n m : ℕ) → Grows (a_type n) (a_type m) → Grows (a_struct n) (a_struct m)
grows_struct n m g =
    g_made (λ p. Rattle.bdl_parser.specs.declared.trees.Decl.TheVariants.Struct p.1.0.0 p.1.0.1 p.1.1.1)
    (g_two (g_same (this_word (codes "struct"))) (g_two (g_same a_name) (g_two (g_same (this_sign 123)) (g_made (λ p. p.0) (grows_many (a_struct_field n) (a_struct_field m) (token (this_sign 125)) (token (this_sign 125)) (grows_struct_field n m g) (g_same (this_sign 125)))))))

pub grows_decl : (n m : ℕ) → Grows (a_type n) (a_type m) → Grows (a_decl n) (a_decl m)
grows_decl n m g = grows_either (a_bag n) (a_struct n) (a_bag m) (a_struct m) (grows_bag n m g) (grows_struct n m g)

pub grows_module : (n m : ℕ) → Grows (a_type n) (a_type m) → Grows (a_module n) (a_module m)
grows_module n m g =
    g_made (λ p. record { imports = p.0; decls = p.1 }) (grows_many an_import an_import (the_decls n) (the_decls m) (grows_same an_import) (g_made (λ p. p.0) (grows_many (a_decl n) (a_decl m) at_end at_end (grows_decl n m g) (grows_same at_end))))
