-- What was taken and what was refused, for families of forms over the room for types.
use Rattle.std.proofs.Common.{ℕ, ◌+◌, ◌≤◌, Bool, Option, List, [], ◌∷◌, ◌++◌, refl, sym, subst, arith}
use Rattle.std.specs.List.{AllByRecursion}
use Rattle.std.specs.Option.{is_some}
use Rattle.outside.specs.declared.answers.OrMemory.{OrMemory}
use Rattle.bdl_parser.specs.declared.ParseCode.{ParseCode}
use Rattle.bdl_parser.specs.declared.ParseCode.TheVariants.{Expected, TypeNesting}
use Rattle.outside.specs.declared.answers.OrMemory.TheVariants.{Fault, Memory}
use Rattle.bdl_parser.specs.Lexemes.{Lexeme}
use Rattle.bdl_parser.specs.Refusals.{IsTokenRefused, IsFormRefused}
use Rattle.grammar_model.specs.Grammars.{Grammar, IsOne, token, two, either, made, Repeats, many}
use Rattle.grammar_model.specs.Stops.{Stops, Taken}
use Rattle.grammar_model.proofs.FormLaws.{IsLawful, IsEnder, Apart, lawful_token}
use Rattle.grammar_model.proofs.GoOnLaws.{goes_made, goes_first, goes_second, goes_left, goes_right, goes_item, goes_last, goes_after}
use Rattle.grammar_model.proofs.Growth.{Grows}
use Rattle.grammar_model.proofs.StopLaws.{IsNotHere, stops_here, stops_made, stops_first, stops_second, stops_left, stops_right, stops_item, stops_last, stops_after}

abbrev pub Family : Type 0 → Type 1
Family A = ℕ → Grammar Lexeme A

-- one token, whatever the room
abbrev pub one : {A : Type 0} → (Lexeme → Option A) → Family A
one meant n = token meant

-- one form and then another
abbrev pub pair : {A B : Type 0} → Family A → Family B → Family (A × B)
pair F G n = two (F n) (G n)

abbrev pub make_each : {A B : Type 0} → (A → B) → Family A → Family B
make_each make F n = made make (F n)

abbrev pub repeat_until : {A B : Type 0} → Family A → Family B → Family (List A × B)
repeat_until F G n = many (F n) (G n)

abbrev pub AreLawful : {A : Type 0} → Family A → (Lexeme → Bool) → Type 0
AreLawful F first = (n : ℕ) → IsLawful (F n) first

module _ {A : Type 0} (meant : Lexeme → Option A) (room : ℕ) where
  pub taken_token : (ts : List Lexeme) (a : A) (rest : List Lexeme) → IsOne meant ts a rest → Taken (one meant) room ts a rest
  taken_token ts a rest it n le = it

  pub refused_token : (e : OrMemory ParseCode) (ts bad : List Lexeme) → IsTokenRefused meant e ts bad → IsFormRefused (one meant) room e ts bad
  refused_token (Fault Expected) ts bad r = λ n le.
      subst (Stops (token meant) ts) r.0 (stops_here (token meant) (λ t. is_some (meant t)) (lawful_token meant) ts r.1)
  refused_token (Fault TypeNesting) ts bad r = absurd r
  refused_token Memory ts bad r = tt

module _ {A B : Type 0} (make : A → B) (F : Family A) (room : ℕ) where
  pub taken_made : (ts : List Lexeme) (a : A) (rest : List Lexeme) → Taken F room ts a rest → Taken (make_each make F) room ts (make a) rest
  taken_made ts a rest t n le = record { said = a; reads = t n le; is = refl }

  pub refused_made : (e : OrMemory ParseCode) (ts bad : List Lexeme) → IsFormRefused F room e ts bad → IsFormRefused (make_each make F) room e ts bad
  refused_made (Fault Expected) ts bad r = λ n le. stops_made make (F n) ts bad (r n le)
  refused_made (Fault TypeNesting) ts bad r = goes_made {B = B} make (F room) (F (room + 1)) ts bad r
  refused_made Memory ts bad r = tt

module _ {A B : Type 0} (F : Family A) (G : Family B) (room : ℕ) where
  pub taken_two : (ts mid : List Lexeme) (a : A) (b : B) (rest : List Lexeme) → Taken F room ts a mid → Taken G room mid b rest → Taken (pair F G) room ts (a, b) rest
  taken_two ts mid a b rest t u n le = record { between = mid; first = t n le; second = u n le }

  pub refused_first : (e : OrMemory ParseCode) (ts bad : List Lexeme) → IsFormRefused F room e ts bad → IsFormRefused (pair F G) room e ts bad
  refused_first (Fault Expected) ts bad r = λ n le. stops_first (F n) (G n) ts bad (r n le)
  refused_first (Fault TypeNesting) ts bad r = goes_first (F room) (F (room + 1)) (G room) (G (room + 1)) ts bad r
  refused_first Memory ts bad r = tt

  pub refused_second : (first : Lexeme → Bool) → AreLawful F first → (e : OrMemory ParseCode) (ts mid bad : List Lexeme) (a : A) → Taken F room ts a mid → IsFormRefused G room e mid bad → IsFormRefused (pair F G) room e ts bad
  refused_second first law (Fault Expected) ts mid bad a t r = λ n le. stops_second (F n) (G n) first (law n) ts mid bad a (t n le) (r n le)
  refused_second first law (Fault TypeNesting) ts mid bad a t r =
      goes_second (F room) (F (room + 1)) (G room) (G (room + 1)) first first (law room) (law (room + 1)) ts mid bad a (t room (omega arith)) (t (room + 1) (omega arith)) r
  refused_second first law Memory ts mid bad a t r = tt

-- what isn't here, whatever the room
abbrev pub AreNotHere : {A : Type 0} → Family A → List Lexeme → Type 0
AreNotHere F ts = (n : ℕ) → IsNotHere (F n) ts

module _ {A : Type 0} (F G : Family A) (room : ℕ) where
  pub refused_left : (e : OrMemory ParseCode) (ts bad : List Lexeme) → AreNotHere G ts → IsFormRefused F room e ts bad → IsFormRefused (λ n. either (F n) (G n)) room e ts bad
  refused_left (Fault Expected) ts bad absent r = λ n le. stops_left (F n) (G n) ts bad (absent n) (r n le)
  refused_left (Fault TypeNesting) ts bad absent r = goes_left (F room) (G room) (F (room + 1)) (G (room + 1)) ts bad (absent room) r
  refused_left Memory ts bad absent r = tt

  pub refused_right : (e : OrMemory ParseCode) (ts bad : List Lexeme) → AreNotHere F ts → IsFormRefused G room e ts bad → IsFormRefused (λ n. either (F n) (G n)) room e ts bad
  refused_right (Fault Expected) ts bad absent r = λ n le. stops_right (F n) (G n) ts bad (absent n) (r n le)
  refused_right (Fault TypeNesting) ts bad absent r = goes_right (F room) (G room) (F (room + 1)) (G (room + 1)) ts bad (absent room) r
  refused_right Memory ts bad absent r = tt

-- one more of which it is so
pub all_more : {A : Type 0} (P : A → Type 0) (items : List A) (a : A) → AllByRecursion P items → P a → AllByRecursion P (items ++ a ∷ [])
all_more P [] a all p = (p, tt)
all_more P (x ∷ items) a all p = (all.0, all_more P items a all.1 p)

-- items so far, with this room or more
abbrev pub TakenItems : {A : Type 0} → Family A → ℕ → List Lexeme → List A → List Lexeme → Type 0
TakenItems F room ts items rest = (n : ℕ) → room ≤ n → Repeats (F n) ts items rest

module _ {A : Type 0} (F : Family A) (room : ℕ) where
  repeats_more : (f : Grammar Lexeme A) (items : List A) (ts mid rest : List Lexeme) (a : A) → Repeats f ts items mid → f.reads mid a rest → Repeats f ts (items ++ a ∷ []) rest
  repeats_more f [] ts mid rest a e r = (rest, subst (λ xs. f.reads xs a rest) (sym e) r, refl)
  repeats_more f (x ∷ items) ts mid rest a e r = (e.0, e.1, repeats_more f items e.0 mid rest a e.2 r)

  pub items_more : (items : List A) (ts mid rest : List Lexeme) (a : A) → TakenItems F room ts items mid → Taken F room mid a rest → TakenItems F room ts (items ++ a ∷ []) rest
  items_more items ts mid rest a so_far t n le = repeats_more (F n) items ts mid rest a (so_far n le) (t n le)

module _ {A B : Type 0} (F : Family A) (G : Family B) (room : ℕ) where
  pub taken_many : (items : List A) (ts mid : List Lexeme) (b : B) (rest : List Lexeme) → TakenItems F room ts items mid → Taken G room mid b rest → Taken (repeat_until F G) room ts (items, b) rest
  taken_many items ts mid b rest t u n le = record { between = mid; items = t n le; last = u n le }

  -- an item is refused, where no end is
  refused_item : (e : OrMemory ParseCode) (ts bad : List Lexeme) → AreNotHere G ts → IsFormRefused F room e ts bad → IsFormRefused (repeat_until F G) room e ts bad
  refused_item (Fault Expected) ts bad absent r = λ n le. stops_item (F n) (G n) ts bad (absent n) (r n le)
  refused_item (Fault TypeNesting) ts bad absent r = goes_item (F room) (F (room + 1)) (G room) (G (room + 1)) ts bad (absent room) r
  refused_item Memory ts bad absent r = tt

  -- the end is refused, where no item is
  refused_last : (e : OrMemory ParseCode) (ts bad : List Lexeme) → AreNotHere F ts → IsFormRefused G room e ts bad → IsFormRefused (repeat_until F G) room e ts bad
  refused_last (Fault Expected) ts bad absent r = λ n le. stops_last (F n) (G n) ts bad (absent n) (r n le)
  refused_last (Fault TypeNesting) ts bad absent r = goes_last (F room) (F (room + 1)) (G room) (G (room + 1)) ts bad (absent room) r
  refused_last Memory ts bad absent r = tt

  -- after items
  refused_after : (first then_ : Lexeme → Bool) → AreLawful F first → ((n : ℕ) → IsEnder (G n) then_) → Apart first then_ → Grows (F room) (F (room + 1)) → (items : List A) (e : OrMemory ParseCode) (ts mid bad : List Lexeme) → TakenItems F room ts items mid → IsFormRefused (repeat_until F G) room e mid bad → IsFormRefused (repeat_until F G) room e ts bad
  refused_after first then_ lf lg apart grows items (Fault Expected) ts mid bad t r = λ n le.
      stops_after (F n) (G n) first then_ (lf n) (lg n) apart items ts mid bad (t n le) (r n le)
  refused_after first then_ lf lg apart grows items (Fault TypeNesting) ts mid bad t r =
      goes_after (F room) (F (room + 1)) (G room) (G (room + 1)) first first then_ (lf room) (lf (room + 1)) (lg room) apart grows items ts mid bad (t room (omega arith)) r
  refused_after first then_ lf lg apart grows items Memory ts mid bad t r = tt

  pub item_refused : (first then_ : Lexeme → Bool) → AreLawful F first → ((n : ℕ) → IsEnder (G n) then_) → Apart first then_ → Grows (F room) (F (room + 1)) → (items : List A) (e : OrMemory ParseCode) (ts mid bad : List Lexeme) → TakenItems F room ts items mid → AreNotHere G mid → IsFormRefused F room e mid bad → IsFormRefused (repeat_until F G) room e ts bad
  item_refused first then_ lf lg apart grows items e ts mid bad t absent r =
      refused_after first then_ lf lg apart grows items e ts mid bad t (refused_item e mid bad absent r)

  pub last_refused : (first then_ : Lexeme → Bool) → AreLawful F first → ((n : ℕ) → IsEnder (G n) then_) → Apart first then_ → Grows (F room) (F (room + 1)) → (items : List A) (e : OrMemory ParseCode) (ts mid bad : List Lexeme) → TakenItems F room ts items mid → AreNotHere F mid → IsFormRefused G room e mid bad → IsFormRefused (repeat_until F G) room e ts bad
  last_refused first then_ lf lg apart grows items e ts mid bad t absent r =
      refused_after first then_ lf lg apart grows items e ts mid bad t (refused_last e mid bad absent r)
