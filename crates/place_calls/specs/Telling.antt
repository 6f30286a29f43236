-- What the part of a slot tells a reader who looks at nothing else.
use Rattle.std.specs.Prelude.{◌≡◌, ◌≢◌, ◌↔◌, ℕ, suc, ◌-◌, ◌*◌, ◌^◌, ◌<◌, nat_le, ◌==◌, ◌&&◌, if◌then◌else◌, IsTrue, List, [], ◌∷◌, Option, Some, None}
use Rattle.std.specs.Str.{bytes_eq}
use Rattle.context_model.specs.Atoms.{Atom}
use Rattle.context_model.specs.Kinds.{atom_of}
use Rattle.context_model.specs.Kinds.Kind.{Indexed}
use Rattle.context_model.specs.Paths.{is_header, level}
use Rattle.context_model.specs.Varints.{unsigned_varint}
use Rattle.bag_model.specs.declared.Pick.{Pick}
use Rattle.bag_model.specs.declared.Pick.TheVariants.{Least, Greatest}
use Rattle.bag_model.specs.Scalars.{ScalarKind, ScalarValue, IsScalarOf, spelling}
use Rattle.bag_model.specs.Shapes.{Shape, Nodes, Taint, Scalar, Set, Counter, Map, Bag, no_node, node}
use Rattle.bag_model.specs.Values.{Value, Values, Taint, Scalar, Set, Counter, Map, Bag, no_value, value, pairs}

-- ---- pieces of a part

-- The payloads of the data before the first header. Markers are passed over.
abbrev pub data_of : List Atom → List (List ℕ)
data_of [] = []
data_of ([] ∷ part) = data_of part
data_of ((b ∷ payload) ∷ part) = if is_header (b ∷ payload) then [] else payload ∷ data_of part

-- The atoms before the first header of this level or of a lesser one.
abbrev pub below : ℕ → List Atom → List Atom
below n [] = []
below n (a ∷ part) = if is_header a && nat_le (level a) n then [] else a ∷ below n part

-- For each header of a key of this level: the key, and what is below the header.
abbrev pub below_keys : ℕ → List Atom → List (List ℕ × List Atom)
below_keys n [] = []
below_keys n ([] ∷ part) = below_keys n part
below_keys n ((b ∷ key) ∷ part) =
    if b == 249 - 8 * n then (key, below n part) ∷ below_keys n part else below_keys n part

-- What is below the header of this level with this number, or nothing where there is no such
-- header.
abbrev pub below_field : ℕ → ℕ → List Atom → List Atom
below_field n number [] = []
below_field n number (a ∷ part) =
    if bytes_eq a (atom_of (Indexed n number)) then below n part else below_field n number part

-- ---- single data

-- The first.
abbrev pub first_datum : {A : Type 0} → List A → Option A
first_datum [] = None
first_datum (x ∷ xs) = Some x

-- The last.
abbrev pub last_datum : {A : Type 0} → List A → Option A
last_datum [] = None
last_datum (x ∷ []) = Some x
last_datum (x ∷ y ∷ xs) = last_datum (y ∷ xs)

-- Of the data of a scalar the one that stays: the first where the least stays, and the last where
-- the greatest does.
abbrev pub picked : Pick → List (List ℕ) → Option (List ℕ)
picked Least data_there = first_datum data_there
picked Greatest data_there = last_datum data_there

-- The bytes are the spelling of this value of the kind.
abbrev pub SpellsValue : ScalarKind → List ℕ → ScalarValue → Type 0
SpellsValue kind bytes v = IsScalarOf kind v × (bytes ≡ spelling kind v)

-- No datum tells no value, and one tells the value that it spells.
abbrev pub TellsScalar : ScalarKind → Option (List ℕ) → Option ScalarValue → Type 0
TellsScalar kind None None = Unit {0}
TellsScalar kind (Some payload) (Some v) = SpellsValue kind payload v
TellsScalar kind datum v = ⊥

-- No datum tells 0, and one tells the count that it spells.
abbrev pub TellsCount : Option (List ℕ) → ℕ → Type 0
TellsCount None n = n ≡ 0
TellsCount (Some payload) n = (n < 2 ^ 64) × (payload ≡ unsigned_varint n)

-- ---- values

-- A key with what is below its header tells this writer with this count: the key, and the last
-- datum there.
abbrev pub TellsWriter : List ℕ × List Atom → List ℕ × ℕ → Type 0
TellsWriter keyed_part writer =
    (writer.0 ≡ keyed_part.0) × TellsCount (last_datum (data_of keyed_part.1)) writer.1

-- R holds of each of the first and the one in its place of the second; there are as many.
abbrev pub MatchEach : {A B : Type 0} → (A → B → Type 0) → List A → List B → Type 0
MatchEach R [] [] = Unit {0}
MatchEach R [] (y ∷ ys) = ⊥
MatchEach R (x ∷ xs) [] = ⊥
MatchEach R (x ∷ xs) (y ∷ ys) = R x y × MatchEach R xs ys

-- The part of a field of this shape tells this value; n is the level of the headers right below the
-- field. A taint is on where there is a datum. A scalar is the datum that stays. A set has the
-- value of each datum. A counter has a writer for each key, with the last datum there as its count.
-- A map has each key, with what is told below it. A bag has what is told below the header of each
-- field.
abbrev mutual
  pub Tells : Shape → ℕ → List Atom → Value → Type 0
  Tells Taint n part (Taint on) = IsTrue on ↔ (data_of part ≢ [])
  Tells Taint n part other = ⊥
  Tells (Scalar pick kind) n part (Scalar own v) =
      (own ≡ pick) × TellsScalar kind (picked pick (data_of part)) v
  Tells (Scalar pick kind) n part other = ⊥
  Tells (Set kind) n part (Set own vs) =
      (own ≡ kind) × MatchEach (SpellsValue kind) (data_of part) vs
  Tells (Set kind) n part other = ⊥
  Tells Counter n part (Counter counts) = MatchEach TellsWriter (below_keys n part) counts
  Tells Counter n part other = ⊥
  Tells (Map kind shape) n part (Map es) =
      MatchEach (λ keyed_part e. SpellsValue kind keyed_part.0 e.0
      × Tells shape (suc n) keyed_part.1 e.1) (below_keys n part) (pairs es)
  Tells (Map kind shape) n part other = ⊥
  Tells (Bag nodes) n part (Bag vs) = TellsEach nodes n part vs
  Tells (Bag nodes) n part other = ⊥

  -- The part of a bag tells these values, one for each field; n is the level of the fields'
  -- headers.
  pub TellsEach : Nodes → ℕ → List Atom → Values → Type 0
  TellsEach no_node n part no_value = Unit {0}
  TellsEach no_node n part (value v vs) = ⊥
  TellsEach (node name number shape nodes) n part no_value = ⊥
  TellsEach (node name number shape nodes) n part (value v vs) =
      Tells shape (suc n) (below_field n number part) v × TellsEach nodes n part vs
