-- One level of types: a type of one word, one that holds elements or a map, each with one type less room inside.
use Rattle.std.proofs.Common.{◌≡◌, ℕ, zero, suc, ◌+◌, ◌≤◌, Bool, true, false, ◌||◌, Option, None, Some, List, [], ◌∷◌, ◌⊎◌, inl, inr, codes, refl, sym, ap, ◌∙◌, subst, subst₂, arith, drop}
use Rattle.std.specs.Option.{is_some, option_map}
use Rattle.outside.specs.declared.answers.OrMemory.{OrMemory}
use Rattle.bdl_parser.specs.declared.ParseCode.{ParseCode}
use Rattle.bdl_parser.specs.declared.ParseCode.TheVariants.{Expected, TypeNesting}
use Rattle.outside.specs.declared.answers.OrMemory.TheVariants.{Fault, Memory}
use Rattle.bdl_parser.specs.Grammar.{this_word, a_leaf, a_holding, held_of, map_of, a_type}
use Rattle.bdl_parser.specs.declared.trees.Spot.{Spot}
use Rattle.bdl_parser.specs.declared.trees.TypeForm.{TypeForm}
use Rattle.bdl_parser.specs.Lexemes.{Lexeme, word}
use Rattle.bdl_parser.specs.Refusals.{meets, IsTokenRefused, IsFormRefused, is_type_first, HasFirst}
use Rattle.bdl_parser.specs.Trees.{TypeTree, leaf}
use Rattle.bdl_parser.specs.Views.{tree_at}
use Rattle.bdl_parser.specs.Words.{leaf_of}
use Rattle.grammar_model.specs.Grammars.{Grammar, IsOne, token, either}
use Rattle.grammar_model.specs.Stops.{first_passes, Stops, GoesOn, Taken}
use Rattle.grammar_model.proofs.FormLaws.{Apart, ender_of}
use Rattle.grammar_model.proofs.GoOnLaws.{goes_left, goes_right}
use Rattle.grammar_model.proofs.StopLaws.{IsNotHere, not_here_apart, stops_here, stops_left, stops_right}
use Rattle.bdl_parser.proofs.GrammarLaws.{law_token, leaf_apart, held_apart, lawful_held, lawful_map, lawful_type}

abbrev held_test : Lexeme → Bool
held_test t = is_some (a_holding t)

abbrev map_test : Lexeme → Bool
map_test t = is_some (this_word (codes "map") t)

abbrev leaf_test : Lexeme → Bool
leaf_test t = is_some (a_leaf t)

pub leaf_taken : (room inner : ℕ) (ts : List Lexeme) (t : TypeTree) (rest : List Lexeme) → room ≡ inner + 1 → IsOne a_leaf ts t rest → Taken a_type room ts t rest
unfolding a_type
leaf_taken room inner ts t rest e it zero le = absurd (omega arith)
leaf_taken room inner ts t rest e it (suc n) le = inl it

pub held_taken_type : (room inner : ℕ) (ts : List Lexeme) (t : TypeTree) (rest : List Lexeme) → room ≡ inner + 1 → Taken (λ n. held_of (a_type n)) inner ts t rest → Taken a_type room ts t rest
unfolding a_type
held_taken_type room inner ts t rest e it zero le = absurd (omega arith)
held_taken_type room inner ts t rest e it (suc n) le = inr (inl (it n (omega arith)))

pub map_taken_type : (room inner : ℕ) (ts : List Lexeme) (t : TypeTree) (rest : List Lexeme) → room ≡ inner + 1 → Taken (λ n. map_of (a_type n)) inner ts t rest → Taken a_type room ts t rest
unfolding a_type
map_taken_type room inner ts t rest e it zero le = absurd (omega arith)
map_taken_type room inner ts t rest e it (suc n) le = inr (inr (it n (omega arith)))

none_of_three : (ts : List Lexeme) → meets a_leaf ts ≡ false → meets a_holding ts ≡ false → meets (this_word (codes "map")) ts ≡ false → first_passes is_type_first ts ≡ false
none_of_three [] p q r = refl
none_of_three (t ∷ ts) p q r = λ i. p i || (q i || r i)

pub leaf_refused : (room : ℕ) (e : OrMemory ParseCode) (ts bad : List Lexeme) → meets a_holding ts ≡ false → meets (this_word (codes "map")) ts ≡ false → IsTokenRefused a_leaf e ts bad → IsFormRefused a_type room e ts bad
leaf_refused room (Fault Expected) ts bad q r it = λ n le.
    subst (Stops (a_type n) ts) it.0 (stops_here (a_type n) is_type_first (lawful_type n) ts (none_of_three ts it.1 q r))
leaf_refused room (Fault TypeNesting) ts bad q r it = absurd it
leaf_refused room Memory ts bad q r it = tt

-- where a type that holds elements or a map begins, nothing else does

held_not_leaf : Apart held_test leaf_test
held_not_leaf t p q = leaf_apart t q (ap (λ b. b || map_test t) p)

or_true : (a b : Bool) → b ≡ true → (a || b) ≡ true
or_true true b e = refl
or_true false b e = e

map_not_leaf : Apart map_test leaf_test
map_not_leaf t p q = leaf_apart t q (or_true (held_test t) (map_test t) p)

map_not_held : Apart map_test held_test
map_not_held t p q = held_apart t q p

no_leaf : (test : Lexeme → Bool) (ts : List Lexeme) → Apart test leaf_test → first_passes test ts ≡ true → IsNotHere (token a_leaf) ts
no_leaf test ts apart e =
    not_here_apart (token a_leaf) test leaf_test (ender_of (token a_leaf) leaf_test (law_token a_leaf)) apart ts e

no_map : (n : ℕ) (ts : List Lexeme) → first_passes held_test ts ≡ true → IsNotHere (map_of (a_type n)) ts
no_map n ts e =
    not_here_apart (map_of (a_type n)) held_test map_test (ender_of (map_of (a_type n)) map_test (lawful_map (a_type n) (lawful_type n))) held_apart ts e

no_held : (n : ℕ) (ts : List Lexeme) → first_passes map_test ts ≡ true → IsNotHere (held_of (a_type n)) ts
no_held n ts e =
    not_here_apart (held_of (a_type n)) map_test held_test (ender_of (held_of (a_type n)) held_test (lawful_held (a_type n) (lawful_type n))) map_not_held ts e

abbrev held_or_map : ℕ → Grammar Lexeme TypeTree
held_or_map n = either (held_of (a_type n)) (map_of (a_type n))

held_stops : (room inner : ℕ) (ts bad : List Lexeme) → room ≡ inner + 1 → first_passes held_test ts ≡ true → ((n : ℕ) → inner ≤ n → Stops (held_of (a_type n)) ts bad) → (n : ℕ) → room ≤ n → Stops (a_type n) ts bad
unfolding a_type
held_stops room inner ts bad e first r zero le = absurd (omega arith)
held_stops room inner ts bad e first r (suc n) le =
    stops_right (token a_leaf) (held_or_map n) ts bad (no_leaf held_test ts held_not_leaf first)
    (stops_left (held_of (a_type n)) (map_of (a_type n)) ts bad (no_map n ts first) (r n (omega arith)))

map_stops : (room inner : ℕ) (ts bad : List Lexeme) → room ≡ inner + 1 → first_passes map_test ts ≡ true → ((n : ℕ) → inner ≤ n → Stops (map_of (a_type n)) ts bad) → (n : ℕ) → room ≤ n → Stops (a_type n) ts bad
unfolding a_type
map_stops room inner ts bad e first r zero le = absurd (omega arith)
map_stops room inner ts bad e first r (suc n) le =
    stops_right (token a_leaf) (held_or_map n) ts bad (no_leaf map_test ts map_not_leaf first)
    (stops_right (held_of (a_type n)) (map_of (a_type n)) ts bad (no_held n ts first) (r n (omega arith)))

held_goes : (inner : ℕ) (ts bad : List Lexeme) → first_passes held_test ts ≡ true → GoesOn (held_of (a_type inner)) (held_of (a_type (inner + 1))) ts bad → GoesOn (a_type (suc inner)) (a_type (suc (inner + 1))) ts bad
unfolding a_type
held_goes inner ts bad first r =
    goes_right (token a_leaf) (held_or_map inner) (token a_leaf) (held_or_map (inner + 1)) ts bad (no_leaf held_test ts held_not_leaf first)
    (goes_left (held_of (a_type inner)) (map_of (a_type inner)) (held_of (a_type (inner + 1))) (map_of (a_type (inner + 1))) ts bad (no_map inner ts first) r)

map_goes : (inner : ℕ) (ts bad : List Lexeme) → first_passes map_test ts ≡ true → GoesOn (map_of (a_type inner)) (map_of (a_type (inner + 1))) ts bad → GoesOn (a_type (suc inner)) (a_type (suc (inner + 1))) ts bad
unfolding a_type
map_goes inner ts bad first r =
    goes_right (token a_leaf) (held_or_map inner) (token a_leaf) (held_or_map (inner + 1)) ts bad (no_leaf map_test ts map_not_leaf first)
    (goes_right (held_of (a_type inner)) (map_of (a_type inner)) (held_of (a_type (inner + 1))) (map_of (a_type (inner + 1))) ts bad (no_held inner ts first) r)

room_is : (room inner : ℕ) (ts bad : List Lexeme) → room ≡ inner + 1 → GoesOn (a_type (suc inner)) (a_type (suc (inner + 1))) ts bad → GoesOn (a_type room) (a_type (room + 1)) ts bad
room_is room inner ts bad e r =
    let one : suc inner ≡ room = omega arith in
    let two : suc (inner + 1) ≡ room + 1 = omega arith in
    subst₂ (λ n m. GoesOn (a_type n) (a_type m) ts bad) one two r

pub held_refused_type : (room inner : ℕ) (e : OrMemory ParseCode) (ts bad : List Lexeme) → room ≡ inner + 1 → meets a_holding ts ≡ true → IsFormRefused (λ n. held_of (a_type n)) inner e ts bad → IsFormRefused a_type room e ts bad
held_refused_type room inner (Fault Expected) ts bad is first r = held_stops room inner ts bad is first r
held_refused_type room inner (Fault TypeNesting) ts bad is first r = room_is room inner ts bad is (held_goes inner ts bad first r)
held_refused_type room inner Memory ts bad is first r = tt

pub map_refused_type : (room inner : ℕ) (e : OrMemory ParseCode) (ts bad : List Lexeme) → room ≡ inner + 1 → meets (this_word (codes "map")) ts ≡ true → IsFormRefused (λ n. map_of (a_type n)) inner e ts bad → IsFormRefused a_type room e ts bad
map_refused_type room inner (Fault Expected) ts bad is first r = map_stops room inner ts bad is first r
map_refused_type room inner (Fault TypeNesting) ts bad is first r = room_is room inner ts bad is (map_goes inner ts bad first r)
map_refused_type room inner Memory ts bad is first r = tt

-- no room is left

pub nothing_stops : (ts : List Lexeme) → first_passes is_type_first ts ≡ false → (n : ℕ) → 0 ≤ n → Stops (a_type n) ts ts
nothing_stops ts e n le = stops_here (a_type n) is_type_first (lawful_type n) ts e

or_two : (a b : Bool) → (a || b) ≡ true → (a ≡ true) ⊎ (b ≡ true)
or_two true b e = inl refl
or_two false b e = inr e

key_begins : (t : Lexeme) → (held_test t ≡ true) ⊎ (map_test t ≡ true) → (held_or_map 0).begins (t ∷ [])
key_begins t (inl e) = inl (inl e)
key_begins t (inr e) = inr (inl e)

first_begins : (t : Lexeme) → (leaf_test t ≡ true) ⊎ ((held_test t || map_test t) ≡ true) → (a_type 1).begins (t ∷ [])
unfolding a_type
first_begins t (inl e) = inl e
first_begins t (inr e) = inr (key_begins t (or_two (held_test t) (map_test t) e))

none_at_all : (ts : List Lexeme) → Stops (a_type 0) ts ts
unfolding a_type
none_at_all ts = record {
  front = [];
  cut = refl;
  begun = refl;
  ends = λ t rest more is b. let w : t ∷ more ≡ [] = b in cc;
  none = λ more a rest r. r;
}

pub nesting_goes : (ts : List Lexeme) → first_passes is_type_first ts ≡ true → GoesOn (a_type 0) (a_type 1) ts ts
nesting_goes [] e = absurd (let w : false ≡ true = e in cc)
nesting_goes (t ∷ ts) e = record {
  stops = none_at_all (t ∷ ts);
  front = [];
  next = t;
  rest = ts;
  cut = refl;
  there = refl;
  on = first_begins t (or_two (leaf_test t) (held_test t || map_test t) e);
}

-- a word that is a type, and one that isn't

pub leaf_missing : (ts : List Lexeme) (text : List ℕ) (spot : Spot) (form : Option TypeForm) → HasFirst (word text) spot ts → ((place : Spot) → option_map (λ found. tree_at place found) form ≡ option_map (λ found. leaf found place) (leaf_of text)) → form ≡ None → meets a_leaf ts ≡ false
leaf_missing ts text spot form is same none =
    ap (meets a_leaf) is ∙ ap is_some (sym (same spot) ∙ ap (option_map (λ found. tree_at spot found)) none)

pub leaf_read : (ts left : List Lexeme) (text : List ℕ) (spot : Spot) (form : Option TypeForm) (found : TypeForm) → HasFirst (word text) spot ts → ((place : Spot) → option_map (λ found. tree_at place found) form ≡ option_map (λ found. leaf found place) (leaf_of text)) → form ≡ Some found → left ≡ drop 1 ts → IsOne a_leaf ts (tree_at spot found) left
leaf_read ts left text spot form found is same some moved = record {
  first = record { what = word text; spot = spot };
  is = is ∙ ap (λ more. record { what = word text; spot = spot } ∷ more) (sym moved);
  means = sym (same spot) ∙ ap (option_map (λ found. tree_at spot found)) some;
}
