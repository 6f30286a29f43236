use Rattle.std.specs.Prelude.{◌≡◌, ◌⊎◌, ℕ, List, Option, Some, None}
use Rattle.std.specs.Ordering.{flip_args}
use Rattle.std.specs.declared.cmp.Ordering.{Ordering}
use Rattle.std.specs.declared.cmp.Ordering.TheVariants.{Less}
use Rattle.context_model.specs.GreedyMerge.{first_of}
use Rattle.set_map_types.specs.SetsAndMaps.{value_cmp}

-- A codec, and one of its values or none.
pub record HeldOne (C V : Type 0) : Type 0 where
  pub codec : C
  pub value : Option V

-- The fact holds of the value, where it is there.
abbrev pub IfThere : {V : Type 0} → (V → Type 0) → Option V → Type 0
IfThere P None = Unit {0}
IfThere P (Some v) = P v

-- The value, where it is there, fits its codec.
abbrev pub one_proper : {C V : Type 0} → (C → V → Type 0) → HeldOne C V → Type 0
one_proper fits s = IfThere (fits s.codec) s.value

-- The join of two values, where they are there: the first in the codec's order.
abbrev pub one_joined : {C V : Type 0} → (C → V → V → Ordering) → HeldOne C V → HeldOne C V
    → HeldOne C V
one_joined order s t = record { codec = s.codec; value = first_of (order s.codec) s.value t.value }

-- Two are alike where their codecs are equal.
abbrev pub SameCodecOfOne : {C V : Type 0} → HeldOne C V → HeldOne C V → Type 0
SameCodecOfOne s t = s.codec ≡ t.codec

-- No value is there.
abbrev pub IsAbsent : {C V : Type 0} → HeldOne C V → Type 0
IsAbsent s = s.value ≡ None

-- The order of a codec's values, by their spellings.
abbrev pub by_spelling : {C V : Type 0} → (C → V → List ℕ) → C → V → V → Ordering
by_spelling spelling c = value_cmp (spelling c)

-- The order of a codec's values by their spellings, turned round.
abbrev pub against_spelling : {C V : Type 0} → (C → V → List ℕ) → C → V → V → Ordering
against_spelling spelling c = flip_args (by_spelling spelling c)

-- Of two values the first: it is one of both, and none of both comes before it. It is absent where
-- both are.
abbrev pub IsFirstOfBoth : {V : Type 0} → (V → V → Ordering) → Option V → Option V → Option V
    → Type 0
IsFirstOfBoth R a b None = (a ≡ None) × (b ≡ None)
IsFirstOfBoth {V} R a b (Some v) =
    ((a ≡ Some v) ⊎ (b ≡ Some v)) × ((w : V) → (a ≡ Some w) ⊎ (b ≡ Some w) → R w v ≡ Less → ⊥)

-- Of two values the last: it is one of both, and it comes before none of both. It is absent where
-- both are.
abbrev pub IsLastOfBoth : {V : Type 0} → (V → V → Ordering) → Option V → Option V → Option V
    → Type 0
IsLastOfBoth R a b None = (a ≡ None) × (b ≡ None)
IsLastOfBoth {V} R a b (Some v) =
    ((a ≡ Some v) ⊎ (b ≡ Some v)) × ((w : V) → (a ≡ Some w) ⊎ (b ≡ Some w) → R v w ≡ Less → ⊥)
