-- What a walk has gathered of a field when it has come to a place.
use Rattle.std.specs.Prelude.{◌≡◌, ◌↔◌, ℕ, ◌<◌, ◌≤◌, List, ◌∷◌, length, Option, Some, None}
use Rattle.context_model.specs.Atoms.{Atom}
use Rattle.context_model.specs.KeyedMerge.{keys_of, EachPair}
use Rattle.context_model.specs.Kinds.{atom_of}
use Rattle.context_model.specs.Kinds.Kind.{Keyed}
use Rattle.context_model.specs.Orders.{Path, atom_cmp, IsIn, Rises}
use Rattle.context_model.specs.Paths.{atom_at}
use Rattle.bag_model.specs.declared.Pick.{Pick}
use Rattle.bag_model.specs.declared.Pick.TheVariants.{Least, Greatest}
use Rattle.bag_model.specs.Readings.{PathsOf, key_path, IsGreatest, Reads}
use Rattle.bag_model.specs.Scalars.{ScalarKind, ScalarValue, scalar_cmp, IsScalarOf, spelling}
use Rattle.bag_model.specs.Shapes.{Shape}
use Rattle.bag_model.specs.Values.{Value}
use Rattle.bag_walks.specs.Parts.{Stands}

-- A datum is at this place.
abbrev pub IsDatumAt : List Atom → ℕ → Type 0
IsDatumAt list place =
    (place < length list) × ((payload : List ℕ) × (atom_at list place ≡ 0 ∷ payload))

-- The first datum from the first place up to the second, or none where there is none.
abbrev pub IsFirstDatum : List Atom → ℕ → ℕ → Option ℕ → Type 0
IsFirstDatum list from to None = (k : ℕ) → from ≤ k → k < to → IsDatumAt list k → ⊥
IsFirstDatum list from to (Some place) =
    (from ≤ place) × (place < to) × IsDatumAt list place
    × ((k : ℕ) → from ≤ k → k < place → IsDatumAt list k → ⊥)

-- The last datum, likewise.
abbrev pub IsLastDatum : List Atom → ℕ → ℕ → Option ℕ → Type 0
IsLastDatum list from to None = (k : ℕ) → from ≤ k → k < to → IsDatumAt list k → ⊥
IsLastDatum list from to (Some place) =
    (from ≤ place) × (place < to) × IsDatumAt list place
    × ((k : ℕ) → place < k → k < to → IsDatumAt list k → ⊥)

-- The datum of the value that stays: the first where the least stays, and the last where the
-- greatest does.
abbrev pub IsDatumThatStays : Pick → List Atom → ℕ → ℕ → Option ℕ → Type 0
IsDatumThatStays Least = IsFirstDatum
IsDatumThatStays Greatest = IsLastDatum

-- The values are those of the kind that are there as data from the first place up to the second, in
-- order, and each datum there is one of them.
pub record GathersData (kind : ScalarKind) (list : List Atom) (from to : ℕ)
    (vs : List ScalarValue) : Type 0 where
  pub rises : Rises scalar_cmp vs
  pub each : (v : ScalarValue) → IsIn v vs
      → IsScalarOf kind v × Stands list (0 ∷ spelling kind v) from to
  pub all : (x : List ℕ) → Stands list (0 ∷ x) from to
      → (v : ScalarValue) × IsIn v vs × (x ≡ spelling kind v)

-- The counts have the writers whose headers are after q from the first place up to the second, in
-- order, each with the greatest count that is there.
pub record GathersCounts (list : List Atom) (q : Path) (from to : ℕ)
    (counts : List (List ℕ × ℕ)) : Type 0 where
  pub rises : Rises atom_cmp (keys_of counts)
  pub keys : (writer : List ℕ)
      → IsIn writer (keys_of counts) ↔ Stands list (atom_of (Keyed (length q) writer)) from to
  pub each : EachPair (λ writer n. IsGreatest (PathsOf list) (key_path q writer) n) counts

-- The entries have the keys of the kind whose headers are after q from the first place up to the
-- second, in order, each with what is read there; and each header of a key there is one of them.
pub record GathersEntries (kind : ScalarKind) (shape : Shape) (list : List Atom) (q : Path)
    (from to : ℕ) (es : List (ScalarValue × Value)) : Type 0 where
  pub rises : Rises scalar_cmp (keys_of es)
  pub keys : (v : ScalarValue) → IsIn v (keys_of es)
      → IsScalarOf kind v × Stands list (atom_of (Keyed (length q) (spelling kind v))) from to
  pub all : (key : List ℕ) → Stands list (atom_of (Keyed (length q) key)) from to
      → (v : ScalarValue) × IsIn v (keys_of es) × (key ≡ spelling kind v)
  pub each : EachPair (λ key v. Reads shape (PathsOf list) (key_path q (spelling kind key)) v) es
