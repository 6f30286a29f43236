-- What some values say together.
use Rattle.std.specs.Borrow.{Bor}
use Rattle.std.specs.Prelude.{◌≡◌, ℕ, ◌≤◌, true, List, map, Some}
use Rattle.std.specs.List.{slice_get}
use Rattle.context_model.specs.KeyedMerge.{keys_of, IsAt}
use Rattle.context_model.specs.GreedyMerge.{first_of}
use Rattle.context_model.specs.Orders.{IsIn}
use Rattle.bag_model.specs.Scalars.{ScalarValue, pick_cmp}
use Rattle.bag_model.specs.Shapes.{Shape}
use Rattle.bag_model.specs.Values.{Value, Entries, Values, Taint, Scalar, Set, Counter, Map, Bag, pairs, values_list, IsOfShape}
use Rattle.bag_value.specs.declared.vals.Val.{Val}
use Rattle.bag_value.specs.Vals.{plain}
use Rattle.trace_model.specs.Contributions.{IsLeastAbove}

-- One thing that a value can say: that a taint is on, that a scalar stays beside this one, that a
-- set has an element, that a writer's count is at least this, that a map has a key, what is said of
-- the value at a key, and what is said of the field at a place.
pub data Saying : Type 0 where
  TaintOn : Saying
  StaysBeside : ScalarValue → Saying
  HasElement : ScalarValue → Saying
  CountsTo : List ℕ → ℕ → Saying
  HasKey : ScalarValue → Saying
  OfKey : ScalarValue → Saying → Saying
  OfField : ℕ → Saying → Saying

-- The value says it.
abbrev pub Says : Value → Saying → Type 0
Says (Taint on) TaintOn = on ≡ true
Says (Scalar pick held) (StaysBeside v) = first_of (pick_cmp pick) (Some v) held ≡ held
Says (Set kind vs) (HasElement v) = IsIn v vs
Says (Counter counts) (CountsTo writer n) = (m : ℕ) × IsAt writer m counts × (n ≤ m)
Says (Map es) (HasKey key) = IsIn key (keys_of (pairs es))
Says (Map es) (OfKey key s) = (v : Value) × IsAt key v (pairs es) × Says v s
Says (Bag vs) (OfField at s) = (v : Value) × (slice_get (values_list vs) at ≡ Some v) × Says v s
Says v s = ⊥

-- One of the values says it.
abbrev pub IsSaid : Saying → List Value → Type 0
IsSaid s values = (v : Value) × IsIn v values × Says v s

-- All that the value says is said by others, each thing by one of them.
abbrev pub IsSaidBy : Value → List Value → Type 0
IsSaidBy v others = (s : Saying) → Says v s → IsSaid s others

-- The value is at the key of a map.
abbrev pub IsAtKey : ScalarValue → Value → Value → Type 0
IsAtKey key map v = (es : Entries) × (map ≡ Map es) × IsAt key v (pairs es)

-- The value is that of the field at this place of a bag.
abbrev pub IsOfField : ℕ → Value → Value → Type 0
IsOfField at bag v = (vs : Values) × (bag ≡ Bag vs) × (slice_get (values_list vs) at ≡ Some v)

-- The values are of one shape.
abbrev pub AreOfOneShape : List Value → Type 0
AreOfOneShape values = (shape : Shape) × ((v : Value) → IsIn v values → IsOfShape shape v)

-- The values are of the shape, and this is their join.
pub record IsJoinOfAll (shape : Shape) (values : List Value) (joined : Value) : Type 0 where
  pub of_shape : (v : Value) → IsIn v values → IsOfShape shape v
  pub join : IsLeastAbove shape (λ v. IsIn v values) joined

-- The join of the first values is that of the second, too.
abbrev pub HaveOneJoin : List Value → List Value → Type 0
HaveOneJoin values others =
    (shape : Shape) (joined : Value) → IsJoinOfAll shape values joined
    → IsJoinOfAll shape others joined

-- The plain values that some references point to.
abbrev pub values_of : List (Bor Val) → List Value
values_of values = map (λ value. plain value.now) values
