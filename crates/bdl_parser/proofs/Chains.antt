-- A sequence of the grammar, part by part: it is taken where each part is, and it is refused where one part is after those before
-- it were taken.
use Rattle.std.proofs.Common.{ℕ, List, Option}
use Rattle.std.specs.Option.{is_some}
use Rattle.outside.specs.declared.answers.OrMemory.{OrMemory}
use Rattle.bdl_parser.specs.declared.ParseCode.{ParseCode}
use Rattle.bdl_parser.specs.Grammar.{a_type}
use Rattle.bdl_parser.specs.Lexemes.{Lexeme}
use Rattle.bdl_parser.specs.Refusals.{IsTokenRefused, IsFormRefused, is_type_first}
use Rattle.bdl_parser.specs.Trees.{TypeTree}
use Rattle.grammar_model.specs.Grammars.{IsOne}
use Rattle.grammar_model.specs.Stops.{Taken}
use Rattle.bdl_parser.proofs.Families.{Family, one, pair, make_each, taken_token, refused_token, taken_made, refused_made, taken_two, refused_first, refused_second}
use Rattle.bdl_parser.proofs.GrammarLaws.{law_token, lawful_type}

-- the form is taken
pub record Reads {A : Type 0} (F : Family A) (room : ℕ) (ts : List Lexeme) (a : A) (rest : List Lexeme) : Type 0 where
  pub is : Taken F room ts a rest

-- the form is refused
pub record Refuses {A : Type 0} (F : Family A) (room : ℕ) (e : OrMemory ParseCode) (ts bad : List Lexeme) : Type 0 where
  pub is : IsFormRefused F room e ts bad

module _ {A B : Type 0} {meant : Lexeme → Option A} {G : Family B} {room : ℕ} where
  -- a token and then the rest
  pub token_then : {ts mid rest : List Lexeme} {a : A} {b : B} → IsOne meant ts a mid → Reads G room mid b rest
      → Reads (pair (one meant) G) room ts (a, b) rest
  token_then {ts = ts} {mid = mid} {rest = rest} {a = a} {b = b} p q =
      record { is = taken_two (one meant) G room ts mid a b rest (taken_token meant room ts a mid p) q.is }

  -- the rest is refused
  pub after_token : {e : OrMemory ParseCode} {ts mid bad : List Lexeme} {a : A} → IsOne meant ts a mid → Refuses G room e mid bad
      → Refuses (pair (one meant) G) room e ts bad
  after_token {e = e} {ts = ts} {mid = mid} {bad = bad} {a = a} p r = record {
    is = refused_second (one meant) G room (λ t. is_some (meant t)) (λ n. law_token meant) e ts mid bad a (taken_token meant room ts a mid p) r.is;
  }

-- the token is refused
pub at_token : {A B : Type 0} (meant : Lexeme → Option A) (G : Family B) {room : ℕ} {e : OrMemory ParseCode} {ts bad : List Lexeme}
    → IsTokenRefused meant e ts bad → Refuses (pair (one meant) G) room e ts bad
at_token meant G {room = room} {e = e} {ts = ts} {bad = bad} r =
    record { is = refused_first (one meant) G room e ts bad (refused_token meant room e ts bad r) }

module _ {B : Type 0} {G : Family B} {room : ℕ} where
  -- a type and then the rest
  pub type_then : {ts mid rest : List Lexeme} {t : TypeTree} {b : B} → Taken a_type room ts t mid → Reads G room mid b rest
      → Reads (pair a_type G) room ts (t, b) rest
  type_then {ts = ts} {mid = mid} {rest = rest} {t = t} {b = b} p q = record { is = taken_two a_type G room ts mid t b rest p q.is }

  -- the rest is refused
  pub after_type : {e : OrMemory ParseCode} {ts mid bad : List Lexeme} (t : TypeTree) → Taken a_type room ts t mid → Refuses G room e mid bad
      → Refuses (pair a_type G) room e ts bad
  after_type {e = e} {ts = ts} {mid = mid} {bad = bad} t p r =
      record { is = refused_second a_type G room is_type_first lawful_type e ts mid bad t p r.is }

-- the type is refused
pub at_type : {B : Type 0} (G : Family B) {room : ℕ} {e : OrMemory ParseCode} {ts bad : List Lexeme} → IsFormRefused a_type room e ts bad
    → Refuses (pair a_type G) room e ts bad
at_type G {room = room} {e = e} {ts = ts} {bad = bad} r = record { is = refused_first a_type G room e ts bad r }

-- a token at the end
pub last_token : {A : Type 0} {meant : Lexeme → Option A} {room : ℕ} {ts rest : List Lexeme} {a : A} → IsOne meant ts a rest
    → Reads (one meant) room ts a rest
last_token {meant = meant} {room = room} {ts = ts} {rest = rest} {a = a} p = record { is = taken_token meant room ts a rest p }

pub at_last : {A : Type 0} (meant : Lexeme → Option A) {room : ℕ} {e : OrMemory ParseCode} {ts bad : List Lexeme}
    → IsTokenRefused meant e ts bad → Refuses (one meant) room e ts bad
at_last meant {room = room} {e = e} {ts = ts} {bad = bad} r = record { is = refused_token meant room e ts bad r }

-- What the sequence says makes what the form says.
pub taken_by : {A B : Type 0} (make : A → B) (F : Family A) (room : ℕ) (ts : List Lexeme) (a : A) (rest : List Lexeme)
    → Reads F room ts a rest → Taken (make_each make F) room ts (make a) rest
taken_by make F room ts a rest p = taken_made make F room ts a rest p.is

-- What refuses the sequence refuses the form.
pub refused_by : {A B : Type 0} (make : A → B) (F : Family A) (room : ℕ) (e : OrMemory ParseCode) (ts bad : List Lexeme)
    → Refuses F room e ts bad → IsFormRefused (make_each make F) room e ts bad
refused_by make F room e ts bad r = refused_made make F room e ts bad r.is
