-- What paths say of the fields of a bag.
use Rattle.std.specs.Prelude.{◌≡◌, ◌≢◌, ◌⊎◌, ◌↔◌, ℕ, ◌^◌, ◌<◌, ◌≤◌, IsTrue, List, [], ◌∷◌, ◌++◌, length, Option, Some, None}
use Rattle.std.specs.declared.cmp.Ordering.{Ordering}
use Rattle.std.specs.declared.cmp.Ordering.TheVariants.{Less}
use Rattle.context_model.specs.Atoms.{Atom}
use Rattle.context_model.specs.Kinds.{atom_of}
use Rattle.context_model.specs.Kinds.Kind.{Datum, Indexed, Keyed}
use Rattle.context_model.specs.Orders.{Path, atom_cmp, IsIn, Rises}
use Rattle.context_model.specs.Paths.{paths}
use Rattle.context_model.specs.KeyedMerge.{keys_of, EachPair}
use Rattle.context_model.specs.Varints.{unsigned_varint}
use Rattle.bag_model.specs.Scalars.{ScalarKind, ScalarValue, scalar_cmp, pick_cmp, IsScalarOf, spelling}
use Rattle.bag_model.specs.Shapes.{Shape, Nodes, Taint, Scalar, Set, Counter, Map, Bag, no_node, node}
use Rattle.bag_model.specs.Values.{Value, Values, Taint, Scalar, Set, Counter, Map, Bag, no_value, value, pairs}

-- A path and a datum after it.
abbrev pub datum_path : Path → List ℕ → Path
datum_path q payload = q ++ atom_of (Datum payload) ∷ []

-- A path and the header of a key after it.
abbrev pub key_path : Path → List ℕ → Path
key_path q key = q ++ atom_of (Keyed (length q) key) ∷ []

-- A path and the header of a field after it.
abbrev pub node_path : Path → ℕ → Path
node_path q number = q ++ atom_of (Indexed (length q) number) ∷ []

-- v is a value of the kind, and its spelling is a datum at q.
abbrev pub HasScalar : ScalarKind → (Path → Type 0) → Path → ScalarValue → Type 0
HasScalar kind P q v = IsScalarOf kind v × P (datum_path q (spelling kind v))

-- Of the values of the kind at q it is the first in the order R, or none where there is none.
abbrev pub IsFirst : (ScalarValue → ScalarValue → Ordering) → ScalarKind → (Path → Type 0) → Path
    → Option ScalarValue → Type 0
IsFirst R kind P q None = (w : ScalarValue) → HasScalar kind P q w → ⊥
IsFirst R kind P q (Some v) =
    HasScalar kind P q v × ((w : ScalarValue) → HasScalar kind P q w → R w v ≢ Less)

-- n is a count of 64 bits, and its spelling is a datum at q.
abbrev pub HasCount : (Path → Type 0) → Path → ℕ → Type 0
HasCount P q n = (n < 2 ^ 64) × P (datum_path q (unsigned_varint n))

-- n is the greatest of the counts at q, or 0 where there is none.
abbrev pub IsGreatest : (Path → Type 0) → Path → ℕ → Type 0
IsGreatest P q n = (HasCount P q n ⊎ (n ≡ 0)) × ((m : ℕ) → HasCount P q m → m ≤ n)

-- key is a scalar of the kind, and its spelling is a key at q.
abbrev pub HasKey : ScalarKind → (Path → Type 0) → Path → ScalarValue → Type 0
HasKey kind P q key = IsScalarOf kind key × P (key_path q (spelling kind key))

-- The paths P say this value of a field of this shape whose own path is q. A taint is on where
-- there is a datum, a scalar is the one of its data that stays, and a set has the values of its
-- data. A counter has a writer for each key, with the greatest count there, and a map has each key,
-- with the value that is said there. A bag has what is said of each field.
abbrev mutual
  pub Reads : Shape → (Path → Type 0) → Path → Value → Type 0
  Reads Taint P q (Taint on) = IsTrue on ↔ ((payload : List ℕ) × P (datum_path q payload))
  Reads Taint P q other = ⊥
  Reads (Scalar pick kind) P q (Scalar own v) = (own ≡ pick) × IsFirst (pick_cmp pick) kind P q v
  Reads (Scalar pick kind) P q other = ⊥
  Reads (Set kind) P q (Set own vs) =
      (own ≡ kind)
      × Rises scalar_cmp vs
      × ((v : ScalarValue) → IsIn v vs ↔ HasScalar kind P q v)
  Reads (Set kind) P q other = ⊥
  Reads Counter P q (Counter counts) =
      Rises atom_cmp (keys_of counts)
      × ((writer : List ℕ) → IsIn writer (keys_of counts) ↔ P (key_path q writer))
      × EachPair (λ writer n. IsGreatest P (key_path q writer) n) counts
  Reads Counter P q other = ⊥
  Reads (Map kind shape) P q (Map es) =
      Rises scalar_cmp (keys_of (pairs es))
      × ((key : ScalarValue) → IsIn key (keys_of (pairs es)) ↔ HasKey kind P q key)
      × EachPair (λ key v. Reads shape P (key_path q (spelling kind key)) v) (pairs es)
  Reads (Map kind shape) P q other = ⊥
  Reads (Bag nodes) P q (Bag vs) = ReadsEach nodes P q vs
  Reads (Bag nodes) P q other = ⊥

  -- The paths P say these values of the fields of a bag whose own path is q, one for each field.
  pub ReadsEach : Nodes → (Path → Type 0) → Path → Values → Type 0
  ReadsEach no_node P q no_value = Unit {0}
  ReadsEach no_node P q (value v vs) = ⊥
  ReadsEach (node name number shape nodes) P q no_value = ⊥
  ReadsEach (node name number shape nodes) P q (value v vs) =
      Reads shape P (node_path q number) v × ReadsEach nodes P q vs

-- The path is one of the list.
abbrev pub PathsOf : List Atom → Path → Type 0
PathsOf list q = IsIn q (paths list)

-- The list says these values of the fields of a table.
abbrev pub SaysValues : Nodes → List Atom → Values → Type 0
SaysValues nodes list vs = ReadsEach nodes (PathsOf list) [] vs
