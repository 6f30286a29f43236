-- The join of two values in terms of what they hold: the union of both.
use Rattle.std.specs.Prelude.{◌≡◌, ◌⊎◌, ◌↔◌, ℕ, max, Bool, true, Option, Some, None, List, length, slice_get}
use Rattle.std.specs.declared.cmp.Ordering.{Ordering}
use Rattle.std.specs.declared.cmp.Ordering.TheVariants.{Less}
use Rattle.context_model.specs.Orders.{atom_cmp, IsIn, Rises}
use Rattle.context_model.specs.KeyedMerge.{keys_of, IsUnion}
use Rattle.bag_model.specs.declared.Pick.{Pick}
use Rattle.bag_model.specs.Scalars.{ScalarKind, ScalarValue, scalar_cmp, pick_cmp}
use Rattle.bag_model.specs.Shapes.{Shape}
use Rattle.bag_model.specs.Values.{Value, Entries, Values, Taint, Scalar, Set, Counter, Map, Bag, pairs, values_list, bottom, IsOfShape}
use Rattle.bag_model.specs.Joins.{join, IsBottom, AreAlike, Proper}

-- A taint that is on where one of both is.
abbrev pub IsEither : Bool → Bool → Bool → Type 0
IsEither a b both = (both ≡ true) ↔ ((a ≡ true) ⊎ (b ≡ true))

-- The first of two scalars in the order R: one of both, and none of both is before it; none where
-- there is none.
abbrev pub IsFirstOfTwo : (ScalarValue → ScalarValue → Ordering) → Option ScalarValue
    → Option ScalarValue → Option ScalarValue → Type 0
IsFirstOfTwo R a b None = (a ≡ None) × (b ≡ None)
IsFirstOfTwo R a b (Some v) =
    ((a ≡ Some v) ⊎ (b ≡ Some v))
    × ((w : ScalarValue) → (a ≡ Some w) ⊎ (b ≡ Some w) → R w v ≡ Less → ⊥)

-- The scalars of both, in order.
abbrev pub IsSetUnion : List ScalarValue → List ScalarValue → List ScalarValue → Type 0
IsSetUnion a b both =
    Rises scalar_cmp both × ((v : ScalarValue) → IsIn v both ↔ (IsIn v a ⊎ IsIn v b))

-- The writers of both, in order, and for a writer of both the greater count.
abbrev pub IsCountUnion : List (List ℕ × ℕ) → List (List ℕ × ℕ) → List (List ℕ × ℕ) → Type 0
IsCountUnion a b both = Rises atom_cmp (keys_of both) × IsUnion max a b both

-- The keys of both, in order, and at a key of both the join of its values.
abbrev pub IsMapUnion : Entries → Entries → Entries → Type 0
IsMapUnion a b both =
    Rises scalar_cmp (keys_of (pairs both)) × IsUnion join (pairs a) (pairs b) (pairs both)

-- At each field the join of its two values.
pub record AreJoinedEach (a b both : Values) : Type 0 where
  pub long : length (values_list both) ≡ length (values_list a)
  pub each : (at : ℕ) (v w : Value) → slice_get (values_list a) at ≡ Some v
      → slice_get (values_list b) at ≡ Some w
      → slice_get (values_list both) at ≡ Some (join v w)

-- The join of two values holds what both hold, whatever their variant.
pub record JoinsAreUnions : Type 0 where
  pub taints : (a b : Bool)
      → (both : Bool) × (join (Taint a) (Taint b) ≡ Taint both) × IsEither a b both
  pub scalars : (pick : Pick) (a b : Option ScalarValue)
      → (both : Option ScalarValue) × (join (Scalar pick a) (Scalar pick b) ≡ Scalar pick both)
      × IsFirstOfTwo (pick_cmp pick) a b both
  pub sets : (kind : ScalarKind) (a b : List ScalarValue) → Proper (Set kind a)
      → Proper (Set kind b)
      → (both : List ScalarValue) × (join (Set kind a) (Set kind b) ≡ Set kind both)
      × IsSetUnion a b both
  pub counters : (a b : List (List ℕ × ℕ)) → Proper (Counter a) → Proper (Counter b)
      → (both : List (List ℕ × ℕ)) × (join (Counter a) (Counter b) ≡ Counter both)
      × IsCountUnion a b both
  pub maps : (a b : Entries) → Proper (Map a) → Proper (Map b)
      → (both : Entries) × (join (Map a) (Map b) ≡ Map both) × IsMapUnion a b both
  pub bags : (a b : Values) → AreAlike a b
      → (both : Values) × (join (Bag a) (Bag b) ≡ Bag both) × AreJoinedEach a b both

-- Bottom is of its shape and says nothing, and it is the one value of the shape that says nothing.
pub record BottomSaysNothing : Type 0 where
  pub shape : (shape : Shape) → IsOfShape shape (bottom shape)
  pub nothing : (shape : Shape) → IsBottom (bottom shape)
  pub only : (shape : Shape) (v : Value) → IsOfShape shape v → IsBottom v → v ≡ bottom shape
