-- The join of two values: what both say together.
use Rattle.std.specs.Prelude.{◌≡◌, ◌||◌, false, max, [], None}
use Rattle.std.specs.List.{AllByRecursion}
use Rattle.context_model.specs.Orders.{atom_cmp, Rises, by_order}
use Rattle.context_model.specs.GreedyMerge.{greedy_merge, first_of}
use Rattle.context_model.specs.KeyedMerge.{merge_with, keys_of, IsAt}
use Rattle.bag_model.specs.Scalars.{ScalarValue, scalar_cmp, pick_cmp, IsScalarOf}
use Rattle.bag_model.specs.Values.{Value, Entries, Values, Taint, Scalar, Set, Counter, Map, Bag, no_entry, entry, no_value, value, pairs, AreCounts}

-- The join of a key's entry and the entries after it with other entries, where with_own is the join
-- of the key's value with another, and rest that of the entries after it with other entries.
abbrev pub entries_onto : ScalarValue → Value → Entries → (Value → Value) → (Entries → Entries)
    → Entries → Entries
entries_onto key v es with_own rest no_entry = entry key v es
entries_onto key v es with_own rest (entry other w fs) =
    by_order (scalar_cmp key other)
    (entry key v (rest (entry other w fs)))
    (entry key (with_own w) (rest fs))
    (entry other w (entries_onto key v es with_own rest fs))

-- The join of two values: taints by or; of two scalars the one that stays; sets by union; counters
-- with the greater count of each writer; maps with the keys of both, and at a key of both the join
-- of its values; bags field by field.
abbrev mutual
  pub join : Value → Value → Value
  join (Taint a) (Taint b) = Taint (a || b)
  join (Taint a) other = Taint a
  join (Scalar pick a) (Scalar other b) = Scalar pick (first_of (pick_cmp pick) a b)
  join (Scalar pick a) other = Scalar pick a
  join (Set kind a) (Set other b) = Set kind (greedy_merge scalar_cmp a b)
  join (Set kind a) other = Set kind a
  join (Counter a) (Counter b) = Counter (merge_with atom_cmp max a b)
  join (Counter a) other = Counter a
  join (Map a) (Map b) = Map (join_entries a b)
  join (Map a) other = Map a
  join (Bag a) (Bag b) = Bag (join_values a b)
  join (Bag a) other = Bag a

  -- The join of two maps: the keys of both, and at a key of both the join of its values.
  pub join_entries : Entries → Entries → Entries
  join_entries no_entry fs = fs
  join_entries (entry key v es) fs = entries_onto key v es (join v) (join_entries es) fs

  -- The join of two bags: the join of the two values of each field.
  pub join_values : Values → Values → Values
  join_values no_value ws = no_value
  join_values (value v vs) no_value = value v vs
  join_values (value v vs) (value w ws) = value (join v w) (join_values vs ws)

-- All that v says w says too.
abbrev pub IsValueBelow : Value → Value → Type 0
IsValueBelow v w = join v w ≡ w

-- The value says nothing.
abbrev mutual
  pub IsBottom : Value → Type 0
  IsBottom (Taint on) = on ≡ false
  IsBottom (Scalar pick v) = v ≡ None
  IsBottom (Set kind vs) = vs ≡ []
  IsBottom (Counter counts) = counts ≡ []
  IsBottom (Map es) = es ≡ no_entry
  IsBottom (Bag vs) = AreBottom vs

  -- Each value of a bag's fields says nothing.
  pub AreBottom : Values → Type 0
  AreBottom no_value = Unit {0}
  AreBottom (value v vs) = IsBottom v × AreBottom vs

-- Two values can be joined: they are of one variant, two scalars keep the same value, two sets are
-- of one kind, the values of two maps at a key of both and those of two bags field by field.
abbrev mutual
  pub Alike : Value → Value → Type 0
  Alike (Taint a) (Taint b) = Unit {0}
  Alike (Taint a) other = ⊥
  Alike (Scalar pick a) (Scalar other b) = pick ≡ other
  Alike (Scalar pick a) other = ⊥
  Alike (Set kind a) (Set other b) = kind ≡ other
  Alike (Set kind a) other = ⊥
  Alike (Counter a) (Counter b) = Unit {0}
  Alike (Counter a) other = ⊥
  Alike (Map a) (Map b) = AlikeEntries a b
  Alike (Map a) other = ⊥
  Alike (Bag a) (Bag b) = AreAlike a b
  Alike (Bag a) other = ⊥

  -- At each key that both maps have the two values can be joined.
  pub AlikeEntries : Entries → Entries → Type 0
  AlikeEntries no_entry fs = Unit {0}
  AlikeEntries (entry key v es) fs =
      ((w : Value) → IsAt key w (pairs fs) → Alike v w) × AlikeEntries es fs

  -- Two bags have as many values, and the two values of each field can be joined.
  pub AreAlike : Values → Values → Type 0
  AreAlike no_value no_value = Unit {0}
  AreAlike no_value (value w ws) = ⊥
  AreAlike (value v vs) no_value = ⊥
  AreAlike (value v vs) (value w ws) = Alike v w × AreAlike vs ws

-- The value and all inside it are in order: the scalars of a set rise and are of its kind, the
-- writers of a counter and the keys of a map rise, and a count has 64 bits.
abbrev mutual
  pub Proper : Value → Type 0
  Proper (Taint on) = Unit {0}
  Proper (Scalar pick v) = Unit {0}
  Proper (Set kind vs) = Rises scalar_cmp vs × AllByRecursion (IsScalarOf kind) vs
  Proper (Counter counts) = AreCounts counts
  Proper (Map es) = Rises scalar_cmp (keys_of (pairs es)) × AreProperEntries es
  Proper (Bag vs) = AreProper vs

  -- The values of a map are in order, and all inside them.
  pub AreProperEntries : Entries → Type 0
  AreProperEntries no_entry = Unit {0}
  AreProperEntries (entry key v es) = Proper v × AreProperEntries es

  -- The values of a bag are in order, and all inside them.
  pub AreProper : Values → Type 0
  AreProper no_value = Unit {0}
  AreProper (value v vs) = Proper v × AreProper vs
