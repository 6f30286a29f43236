-- Sets and maps with their codecs, and their joins.
use Rattle.std.specs.Prelude.{◌≡◌, ℕ, List, []}
use Rattle.std.specs.Ordering.{on}
use Rattle.std.specs.declared.cmp.Ordering.{Ordering}
use Rattle.context_model.specs.Orders.{atom_cmp}
use Rattle.counter_type.specs.Entries.{AreKeys, AreEntries}
use Rattle.context_model.specs.GreedyMerge.{greedy_merge}
use Rattle.context_model.specs.KeyedMerge.{merge_with, AtOneKey}

-- A codec, and what is held of its values, in order.
pub record Held (C E : Type 0) : Type 0 where
  pub codec : C
  pub items : List E

-- Values are in the order of their spellings.
abbrev pub value_cmp : {V : Type 0} → (V → List ℕ) → V → V → Ordering
value_cmp spelling = on spelling atom_cmp

-- Each value fits, and comes before the next.
abbrev pub IsSet : {V : Type 0} → (V → Type 0) → (V → List ℕ) → List V → Type 0
IsSet fits spelling values = AreKeys fits (value_cmp spelling) values

-- The keys are a set, and each value is proper.
abbrev pub IsMap : {V L : Type 0} → (V → Type 0) → (V → List ℕ) → (L → Type 0) → List (V × L)
    → Type 0
IsMap fits spelling proper entries = AreEntries fits (value_cmp spelling) proper entries

-- Two are of one codec.
abbrev pub SameCodec : {C E : Type 0} → Held C E → Held C E → Type 0
SameCodec s t = s.codec ≡ t.codec

-- Nothing is held.
abbrev pub HoldsNothing : {C E : Type 0} → Held C E → Type 0
HoldsNothing s = s.items ≡ []

-- The values that are held are a set of their codec's.
abbrev pub set_proper : {C V : Type 0} → (C → V → Type 0) → (C → V → List ℕ) → Held C V → Type 0
set_proper fits spelling s = IsSet (fits s.codec) (spelling s.codec) s.items

-- The join of two sets: the values of both.
abbrev pub set_joined : {C V : Type 0} → (C → V → List ℕ) → Held C V → Held C V → Held C V
set_joined spelling s t =
    record { codec = s.codec; items = greedy_merge (value_cmp (spelling s.codec)) s.items t.items }

-- The entries that are held are a map of their codec's.
abbrev pub map_proper : {C V L : Type 0} → (C → V → Type 0) → (C → V → List ℕ) → (L → Type 0)
    → Held C (V × L) → Type 0
map_proper fits spelling proper s = IsMap (fits s.codec) (spelling s.codec) proper s.items

-- Two are of one codec, and their values at a common key are alike.
pub record MapAlike {C V L : Type 0} (alike : L → L → Type 0) (s t : Held C (V × L)) : Type 0 where
  pub codecs : s.codec ≡ t.codec
  pub values : AtOneKey alike s.items t.items

-- The join of two maps: the keys of both, and at a common key the join of the values.
abbrev pub map_joined : {C V L : Type 0} → (C → V → List ℕ) → (L → L → L) → Held C (V × L)
    → Held C (V × L) → Held C (V × L)
map_joined spelling joined s t =
    record {
      codec = s.codec;
      items = merge_with
          (value_cmp (spelling s.codec)) joined s.items t.items;
    }
